-- Units have one answer only: they are cut in one way, which ends at their end or breaks at one unit.
use Rattle.dexinsn.proofs.Common.{◌≡◌, ◌≢◌, inl, inr, ℕ, ◌+◌, Bool, not, cond, List, [], ◌∷◌, length, drop, Some, None, Result, Ok, Err, refl, ap, sym, ◌∙◌, subst, arith, add-zero, add_assoc, zero-add, length-drop, IsTrue, All, find, option_map, All-head, All-tail, same_Some, Cut, AreCut, IsCode, has_right_targets, piece_size, Vec, IfOk, Global, BreaksAt, cuts_of, units_of_all, first_bad_target, first_bad_target_of, HasBadTargetAt, IsFault, IsResult, IsReturned, IfErr, Empty, Target, HasNumbersOf, IsSplitFault, unit_of}
use Rattle.dexinsn.specs.declared.code.Cut.{Cut as CutOfCode}
use Rattle.dexinsn.specs.declared.code.SplitFault.{SplitFault}
use Rattle.dexinsn.specs.declared.code.SplitFault.TheVariants.{Piece, Memory}
use Rattle.dexinsn.specs.declared.code_fault.CodeFault.{CodeFault}
use Rattle.dexinsn.specs.internal.{kind_of}
use Rattle.dexinsn.proofs.IndexRoom.{piece_size-fits}

-- the pieces, and what is left, where no piece begins
record Ends (at : ℕ) (us : List ℕ) (cs : List Cut) (rest : List ℕ) : Type 0 where
  cut : AreCut at us cs rest
  none : piece_size (at + units_of_all cs) rest ≡ None

-- where no piece begins there is no next piece
nothing_more : (at : ℕ) (us rest : List ℕ) (n : ℕ) → us ≡ rest → piece_size (at + 0) rest ≡ None → piece_size at us ≡ Some n → ⊥
nothing_more at us rest n same none some = let both : None ≡ Some n = sym (ap (piece_size at) same ∙ ap (λ (p : ℕ). piece_size p rest) (sym (add-zero at)) ∙ none) ∙ some in cc

-- two cuts at one unit with one number of units are the same
pub same_cut : (c d : Cut) → c.unit ≡ d.unit → c.units ≡ d.units → c ≡ d
same_cut c d unit units = ap (λ (n : ℕ). record { unit = n; units = c.units }) unit ∙ ap (λ (n : ℕ). record { unit = d.unit; units = n }) units

-- lists with the same first cut and the same rest are the same
same_cons : (c d : Cut) (cs ds : List Cut) → c ≡ d → cs ≡ ds → (c ∷ cs) ≡ (d ∷ ds)
same_cons c d cs ds first rest = ap (λ (b : Cut). b ∷ cs) first ∙ ap (λ (bs : List Cut). d ∷ bs) rest

-- the units are cut in one way up to where no piece begins
cut_once : (at : ℕ) (us : List ℕ) (cs ds : List Cut) (rest left : List ℕ) → Ends at us cs rest → Ends at us ds left → cs ≡ ds
cut_once at us [] [] rest left e f = refl
cut_once at us [] (d ∷ ds) rest left e f = absurd (nothing_more at us rest d.units e.cut e.none f.cut.1)
cut_once at us (c ∷ cs) [] rest left e f = absurd (nothing_more at us left c.units f.cut f.none e.cut.1)
cut_once at us (c ∷ cs) (d ∷ ds) rest left e f =
    let units : c.units ≡ d.units = same_Some c.units d.units (sym e.cut.1 ∙ f.cut.1) in
    let on : Ends (at + c.units) (drop c.units us) cs rest = record { cut = e.cut.2; none = ap (λ (p : ℕ). piece_size p rest) (add_assoc at c.units (units_of_all cs)) ∙ e.none } in
    let also : Ends (at + d.units) (drop d.units us) ds left = record { cut = f.cut.2; none = ap (λ (p : ℕ). piece_size p left) (add_assoc at d.units (units_of_all ds)) ∙ f.none } in
    same_cons c d cs ds (same_cut c d (e.cut.0 ∙ sym f.cut.0) units)
    (cut_once (at + c.units) (drop c.units us) cs ds rest left on (subst (λ (n : ℕ). Ends (at + n) (drop n us) ds left) (sym units) also))

-- the same pieces leave the same rest
rest_once : (at : ℕ) (us : List ℕ) (cs : List Cut) (rest left : List ℕ) → AreCut at us cs rest → AreCut at us cs left → rest ≡ left
rest_once at us [] rest left e f = sym e ∙ f
rest_once at us (c ∷ cs) rest left e f = rest_once (at + c.units) (drop c.units us) cs rest left e.2 f.2

-- the pieces and what they leave are all units
reaches : (at : ℕ) (us : List ℕ) (cs : List Cut) (rest : List ℕ) → AreCut at us cs rest → length us ≡ units_of_all cs + length rest
reaches at us [] rest e = ap length e ∙ sym (zero-add (length rest))
reaches at us (c ∷ cs) rest e = omega (arith, reaches (at + c.units) (drop c.units us) cs rest e.2, (piece_size-fits at us c.units e.1).1, length-drop c.units us)

-- no piece begins where no units are left
pub nothing : (at : ℕ) → piece_size at [] ≡ None
unfolding piece_size
nothing at = refl

-- a cut to the end ends where no piece begins
whole : (us : List ℕ) (cs : List Cut) → AreCut 0 us cs [] → Ends 0 us cs []
whole us cs cut = record { cut = cut; none = nothing (0 + units_of_all cs) }

-- a cut that breaks ends where no piece begins
broken : (us : List ℕ) (n : ℕ) (b : BreaksAt us n) → Ends 0 us b.cuts (drop n us)
broken us n b =
    let here : 0 + units_of_all b.cuts ≡ n = omega (arith, reaches 0 us b.cuts (drop n us) b.cut, b.within, length-drop n us) in record { cut = b.cut; none = ap (λ (p : ℕ). piece_size p (drop n us)) here ∙ b.none }

-- a cut that ends at the end is no broken one
not_both : (us : List ℕ) (cs : List Cut) (n : ℕ) → AreCut 0 us cs [] → BreaksAt us n → ⊥
not_both us cs n cut b =
    let none : 0 ≡ length (drop n us) = ap length (rest_once 0 us b.cuts [] (drop n us) (subst (λ (ds : List Cut). AreCut 0 us ds []) (cut_once 0 us cs b.cuts [] (drop n us) (whole us cs cut) (broken us n b)) cut) b.cut) in
    omega (arith, b.within, length-drop n us)

-- there is one cut to the end
pub whole_once : (us : List ℕ) (cs ds : List Cut) → AreCut 0 us cs [] → AreCut 0 us ds [] → cs ≡ ds
whole_once us cs ds e f = cut_once 0 us cs ds [] [] (whole us cs e) (whole us ds f)

-- a cut breaks at one unit
breaks_once : (us : List ℕ) (n m : ℕ) → BreaksAt us n → BreaksAt us m → n ≡ m
breaks_once us n m b d =
    let long : length (drop n us) ≡ length (drop m us) = ap length (rest_once 0 us d.cuts (drop n us) (drop m us) (subst (λ (cs : List Cut). AreCut 0 us cs (drop n us)) (cut_once 0 us b.cuts d.cuts (drop n us) (drop m us) (broken us n b) (broken us m d)) b.cut) d.cut) in
    omega (arith, b.within, d.within, length-drop n us, length-drop m us)

-- where all targets are right no piece is found with a wrong one
no_bad_target : (us : List ℕ) (cs some : List Cut) → All (λ c. IsTrue (has_right_targets us cs c)) some → first_bad_target_of us cs some ≡ None
no_bad_target us cs [] right = refl
no_bad_target us cs (c ∷ some) right =
    ap (λ (t : Bool). option_map (λ (d : Cut). d.unit) (cond (not t) (Some c) (find (λ (d : Cut). not (has_right_targets us cs d)) some))) (All-head (λ d. IsTrue (has_right_targets us cs d)) c some right)
    ∙ no_bad_target us cs some (All-tail (λ d. IsTrue (has_right_targets us cs d)) c some right)

-- code has no instruction with a wrong target
is_no_bad_target : (us : List ℕ) (cs : List Cut) (n : ℕ) → IsCode us cs → HasBadTargetAt us n → ⊥
is_no_bad_target us cs n code a = let both : None ≡ Some n = sym (no_bad_target us cs cs code.targets) ∙ ap (first_bad_target us) (whole_once us cs a.cuts code.cut a.cut) ∙ a.first in cc

-- one instruction is the first with a wrong target
bad_target_once : (us : List ℕ) (n m : ℕ) → HasBadTargetAt us n → HasBadTargetAt us m → n ≡ m
bad_target_once us n m a b = same_Some n m (sym a.first ∙ ap (first_bad_target us) (whole_once us a.cuts b.cuts a.cut b.cut) ∙ b.first)

-- where there are no units there are no pieces
empty_cut : (us : List ℕ) (cs : List Cut) → us ≡ [] → AreCut 0 us cs [] → cs ≡ []
empty_cut us cs empty cut = whole_once us cs [] cut empty

-- where there are no units no target is wrong
empty_bad_target : (us : List ℕ) (n : ℕ) → us ≡ [] → HasBadTargetAt us n → ⊥
empty_bad_target us n empty a = let both : None ≡ Some n = sym (ap (first_bad_target us) (empty_cut us a.cuts empty a.cut)) ∙ a.first in cc

-- where there are no units no cut breaks
empty_breaks : (us : List ℕ) (n : ℕ) → us ≡ [] → BreaksAt us n → ⊥
empty_breaks us n empty b = omega (arith, b.within, ap length empty)

-- no units are no code
empty_code : (us : List ℕ) (cs : List Cut) → us ≡ [] → IsCode us cs → ⊥
empty_code us cs empty code = omega (arith, code.some, ap length empty)

-- an answer that is true of the units: their pieces, or a fault of theirs by name
abbrev IsNamedResult : List ℕ → Result (List Cut) SplitFault → Type 0
IsNamedResult us (Ok cs) = IsCode us cs
IsNamedResult us (Err Empty) = us ≡ []
IsNamedResult us (Err (Piece n)) = BreaksAt us n
IsNamedResult us (Err (Target n)) = HasBadTargetAt us n
IsNamedResult us (Err Memory) = ⊥

-- two answers that are true of the units are the same
pub result_once : (us : List ℕ) (a b : Result (List Cut) SplitFault) → IsNamedResult us a → IsNamedResult us b → a ≡ b
result_once us (Ok cs) (Ok ds) x y = ap Ok (whole_once us cs ds x.cut y.cut)
result_once us (Ok cs) (Err Empty) x y = absurd (empty_code us cs y x)
result_once us (Ok cs) (Err (Piece n)) x y = absurd (not_both us cs n x.cut y)
result_once us (Ok cs) (Err (Target n)) x y = absurd (is_no_bad_target us cs n x y)
result_once us (Err Empty) (Ok ds) x y = absurd (empty_code us ds x y)
result_once us (Err Empty) (Err Empty) x y = refl
result_once us (Err Empty) (Err (Piece m)) x y = absurd (empty_breaks us m x y)
result_once us (Err Empty) (Err (Target m)) x y = absurd (empty_bad_target us m x y)
result_once us (Err (Piece n)) (Ok ds) x y = absurd (not_both us ds n y.cut x)
result_once us (Err (Piece n)) (Err Empty) x y = absurd (empty_breaks us n y x)
result_once us (Err (Piece n)) (Err (Piece m)) x y = ap (λ (k : ℕ). Err (Piece k)) (breaks_once us n m x y)
result_once us (Err (Piece n)) (Err (Target m)) x y = absurd (not_both us y.cuts n y.cut x)
result_once us (Err (Target n)) (Ok ds) x y = absurd (is_no_bad_target us ds n y x)
result_once us (Err (Target n)) (Err Empty) x y = absurd (empty_bad_target us n y x)
result_once us (Err (Target n)) (Err (Piece m)) x y = absurd (not_both us x.cuts m x.cut y)
result_once us (Err (Target n)) (Err (Target m)) x y = ap (λ (k : ℕ). Err (Target k)) (bad_target_once us n m x y)
result_once us (Err Memory) b x y = absurd x
result_once us _ _ x y = absurd y

-- a fault of these numbers
pub reported : (us : List ℕ) (named : SplitFault) (fault : CodeFault) → IsSplitFault us named → HasNumbersOf named fault → IsFault us fault
reported us Empty fault is n = inl (n.kind_is, n.unit_is, is)
reported us (Piece k) fault is n = inr (inl (n.kind_is, subst (BreaksAt us) (sym n.unit_is) is))
reported us (Target k) fault is n = inr (inr (inl (n.kind_is, subst (HasBadTargetAt us) (sym n.unit_is) is)))
reported us Memory fault is n = inr (inr (inr (n.kind_is, n.unit_is)))

-- the name of a fault of the units
record Named (us : List ℕ) (fault : CodeFault) : Type 0 where
  named : SplitFault
  is : IsNamedResult us (Err named)
  numbers : HasNumbersOf named fault

name_of : (us : List ℕ) (fault : CodeFault) → IsFault us fault → fault.kind ≢ 4 → Named us fault
name_of us fault (inl f) other = record { named = Empty; is = f.2; numbers = record { kind_is = f.0; unit_is = f.1 } }
name_of us fault (inr (inl f)) other = record { named = Piece fault.unit; is = f.1; numbers = record { kind_is = f.0; unit_is = refl } }
name_of us fault (inr (inr (inl f))) other = record { named = Target fault.unit; is = f.1; numbers = record { kind_is = f.0; unit_is = refl } }
name_of us fault (inr (inr (inr f))) other = absurd (other f.0)

-- code has no fault
no_fault : (us : List ℕ) (cs : List Cut) (fault : CodeFault) → IsCode us cs → IsFault us fault → fault.kind ≢ 4 → ⊥
no_fault us cs fault code is other = let f = name_of us fault is other in let e : Ok cs ≡ Err f.named = result_once us (Ok cs) (Err f.named) code f.is in cc

-- the numbers of a fault, or zero
numbers_in : Result (List Cut) SplitFault → ℕ × ℕ
numbers_in (Ok cs) = (0, 0)
numbers_in (Err named) = (kind_of named, unit_of named)

-- a fault that is reported is the only answer
pub only_fault : (us : List ℕ) (fault : CodeFault) (answer : Result (List Cut) CodeFault) → IsFault us fault → IsResult us answer → IsReturned answer (Err fault)
unfolding numbers_in
only_fault us fault (Ok cs) is code other = no_fault us cs fault code is other
only_fault us fault (Err known) is answers other =
    let f = name_of us fault is other in
    let g = name_of us known answers.0 answers.1 in
    let e = ap numbers_in (result_once us (Err g.named) (Err f.named) g.is f.is) in (g.numbers.kind_is ∙ ap (λ p. p.0) e ∙ sym f.numbers.kind_is, g.numbers.unit_is ∙ ap (λ p. p.1) e ∙ sym f.numbers.unit_is)

-- what is returned is the only answer
pub returned_all : (us : List ℕ) (r : Result (Vec CutOfCode Global) CodeFault) (answer : Result (List Cut) CodeFault) → IfOk r (λ cuts. IsCode us (cuts_of cuts.items)) → IfErr r (IsFault us) → IsResult us answer → IsReturned answer r
returned_all us (Ok cuts) (Ok cs) code fault is = ap Ok (whole_once us (cuts_of cuts.items) cs code.cut is.cut)
returned_all us (Ok cuts) (Err known) code fault is = absurd (no_fault us (cuts_of cuts.items) known code is.0 is.1)
returned_all us (Err fault) answer code is answers = only_fault us fault answer is answers
