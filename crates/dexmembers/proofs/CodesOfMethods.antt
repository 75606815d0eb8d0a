-- The code of methods, one after the other.
use Rattle.dexmembers.proofs.Common.{◌≡◌, ◌≢◌, ℕ, ◌+◌, ◌<◌, ◌≤◌, List, [], ◌∷◌, ◌++◌, length, take, drop, get_or, inl, inr, Option, Some, None, sym, subst, ap, ◌∙◌, arith, sum_by, AllZip, Contains, take-append-drop, take_more, sum_by_push, sum_by-cons, OrNone, SomeAt, BothOrNone, Code, CodeAt, Mentions, one_or_none, one_some, one_code_item, zip_push, ItemFault, Refused, Memory, NumberedItem, DenotesCode, IsCodeAt}
use Rattle.dexcode.specs.Reading.{IsCodeBeside}
use Rattle.dexspec.specs.Debug.{DebugAt}
use Rattle.dexmembers.specs.declared.class_data.EncodedMethod.{EncodedMethod}
use Rattle.dexmembers.specs.internal.MethodCodes.{AreCodesAt, IsCodeOrNone, IsCodeOrNoneFault, IsDebugOrNoneFault, AreCodesOf, IsCodesFault, IsCodesFaultWithin, optional_code_weight}

-- code that was read is code or none
pub some_code : (b : List ℕ) (off : ℕ) (m : Mentions) (code : NumberedItem) → off ≢ 0 → IsCodeAt b off m code → IsCodeOrNone b off m (Some code)
some_code b off m code some is = record { symbolic = Some is.symbolic; at = inr (some, is.at); encodes = is.encodes }

-- where its debug program is refused, so is the code
pub debug_refused : {b : List ℕ} {off : ℕ} {m : Mentions} {code : NumberedItem} {debug_off : ℕ} → IsCodeBeside b off m code debug_off → off ≢ 0 → (fault : ItemFault) → IsDebugOrNoneFault b debug_off fault → IsCodeOrNoneFault b off fault
debug_refused {b} code some Memory is = tt
debug_refused {b} code some (Refused number) is =
    (some, inr (inr (is.1.0, code.pieces, (λ e. is.0 (code.debug_off_is ∙ e)), λ d at. is.1.1 d (subst (λ (o : ℕ). DebugAt b o d) (sym code.debug_off_is) at))))

-- a fault at the offset of one of the methods is one of their faults
pub fault_among : (b : List ℕ) (xs : List EncodedMethod) (x : EncodedMethod) (fault : ItemFault) → Contains xs x → IsCodeOrNoneFault b x.code_off fault → IsCodesFault b xs fault
fault_among b xs x Memory among is = tt
fault_among b xs x (Refused number) among is = record { method = x; among = among; coded = is.0; failed = is.1 }

pub fault_within : (b : List ℕ) (xs : List EncodedMethod) (most : ℕ) (fault : ItemFault) → IsCodesFault b xs fault → IsCodesFaultWithin b xs most fault
fault_within b xs most Memory is = tt
fault_within b xs most (Refused number) is = inl is

-- the code of the methods was read, and weighs what is taken from a weight
pub record HaveReadCodes (b : List ℕ) (m : Mentions) (xs : List EncodedMethod) (most left : ℕ) (codes : List (Option NumberedItem)) : Type 0 where
  pub symbolic : List (Option Code)
  pub at : AreCodesAt b xs symbolic
  pub are_encoded : AllZip (BothOrNone (DenotesCode m)) codes symbolic
  pub weight : left + sum_by optional_code_weight symbolic ≡ most

-- of none
pub none_read : (b : List ℕ) (m : Mentions) (most : ℕ) → HaveReadCodes b m [] most most []
none_read b m most = record { symbolic = []; at = tt; are_encoded = tt; weight = omega arith }

-- of one more
pub one_more_read : (b : List ℕ) (m : Mentions) (xs : List EncodedMethod) (most left rest : ℕ) (codes : List (Option NumberedItem)) (x : EncodedMethod) (code : Option NumberedItem)
    → HaveReadCodes b m xs most left codes → (is : IsCodeOrNone b x.code_off m code) → rest + optional_code_weight is.symbolic ≡ left → HaveReadCodes b m (xs ++ x ∷ []) most rest (codes ++ code ∷ [])
one_more_read b m xs most left rest codes x code read is weight = record {
  symbolic = read.symbolic ++ is.symbolic ∷ [];
  at = zip_push (λ (x : EncodedMethod) c. OrNone (SomeAt CodeAt) None b x.code_off c) xs read.symbolic x is.symbolic read.at is.at;
  are_encoded = zip_push (BothOrNone (DenotesCode m)) codes read.symbolic code is.symbolic read.are_encoded is.encodes;
  weight = omega (arith, read.weight, weight, sum_by_push optional_code_weight read.symbolic is.symbolic);
}

-- all of them
pub all_read : (b : List ℕ) (m : Mentions) (xs : List EncodedMethod) (most left : ℕ) (codes : List (Option NumberedItem)) → HaveReadCodes b m xs most left codes → AreCodesOf b m xs most codes
all_read b m xs most left codes read = record { symbolic = read.symbolic; at = read.at; are_encoded = read.are_encoded; light = omega (arith, read.weight) }

-- a prefix of methods has code that weighs no more than that of all
prefix_within : (b : List ℕ) (xs us : List EncodedMethod) (prefix codes : List (Option Code)) → AreCodesAt b xs prefix → AreCodesAt b (xs ++ us) codes → sum_by optional_code_weight prefix ≤ sum_by optional_code_weight codes
prefix_within b [] us [] codes at all = omega arith
prefix_within b [] us (c ∷ prefix) codes at all = absurd at
prefix_within b (x ∷ xs) us [] codes at all = absurd at
prefix_within b (x ∷ xs) us (c ∷ prefix) [] at all = absurd all
prefix_within b (x ∷ xs) us (c ∷ prefix) (d ∷ codes) at all =
    let same : c ≡ d = one_or_none (SomeAt CodeAt) None b x.code_off c d (one_some CodeAt one_code_item b x.code_off c d) at.0 all.0 in
    omega (arith, prefix_within b xs us prefix codes at.1 all.1, ap optional_code_weight same, sum_by-cons optional_code_weight c prefix, sum_by-cons optional_code_weight d codes)

-- where the next is heavier than what is left, the code of all methods weighs more than it may
pub heavy_read : (b : List ℕ) (m : Mentions) (xs : List EncodedMethod) (i most left : ℕ) (d : EncodedMethod) (read : List (Option NumberedItem)) (code : Option NumberedItem) → i < length xs → HaveReadCodes b m (take i xs) most left read
    → (is : IsCodeOrNone b (get_or xs i d).code_off m code) → left < optional_code_weight is.symbolic → (codes : List (Option Code)) → AreCodesAt b xs codes → most < sum_by optional_code_weight codes
heavy_read b m xs i most left d read code lt have is heavy codes at =
    let prefix = zip_push (λ (x : EncodedMethod) c. OrNone (SomeAt CodeAt) None b x.code_off c) (take i xs) have.symbolic (get_or xs i d) is.symbolic have.at is.at in
    let so_far : AreCodesAt b (take (i + 1) xs) (have.symbolic ++ is.symbolic ∷ []) = subst (λ l. AreCodesAt b l (have.symbolic ++ is.symbolic ∷ [])) (sym (take_more xs i d lt)) prefix in
    let all : AreCodesAt b (take (i + 1) xs ++ drop (i + 1) xs) codes = subst (λ l. AreCodesAt b l codes) (sym (take-append-drop (i + 1) xs)) at in
    omega (arith, have.weight, heavy, sum_by_push optional_code_weight have.symbolic is.symbolic, prefix_within b (take (i + 1) xs) (drop (i + 1) xs) (have.symbolic ++ is.symbolic ∷ []) codes so_far all)
