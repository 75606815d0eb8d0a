-- An annotations directory with numbers put in is that of what the numbers denote.
use Rattle.dexmembers.proofs.Common.{◌≡◌, ◌≢◌, ℕ, ◌+◌, ◌*◌, ◌<◌, ◌≤◌, Bool, true, false, List, [], ◌∷◌, ◌++◌, length, map, get_or, take, drop, Option, Some, None, unwrap_or, refl, sym, ap, ◌∙◌, subst, arith, inl, inr, All, if◌then◌else◌, ◌==◌, slice_index, nat_lt, Contains, zip, nat_cmp, is_lt, Ordering, Less, Equal, Greater, cases_lt, true≢false, cond-false, cond_both, le-ltb, length-append, length-map, map-append, take-append-drop, length-take, length-drop, All-nil, All-cons, rises, in_order, uint, Text, ShareNone, Body, FieldDef, MethodDef, Mentions, field_of, method_of, SetOffsets, pair_cmp, pairs, pairs_bytes, directory_bytes, field_index, method_index, length-uint, and_first, and_second, Contains-first, Contains-later, RanksAreNumbers, field_at, method_at, map_both, all_prefix, all_back}
use Rattle.dexmembers.specs.{NumberedField, NumberedMethod, NumberedMembers, Members, field_in, method_in, members_in, members_of, fields_of, methods_of, IsKnownField, IsKnownMethod, AreKnownMembers, AreOfClass, AreOrdered, count_placed, pairs_of_both, both_bytes, field_numbers, method_numbers, numbered_directory_bytes}
use Rattle.dexmembers.proofs.ClassDataSpelled.{field_number, method_number}
use Rattle.dexmembers.proofs.PairsMerged.{kept, AreAbove, Ascend, AreOther, AreApart, lower_above, merged_in_order, kept_bytes, kept_count, placed_count, placed_append, pairs_size}

-- ---- rising numbers

-- a number is not less than one that it does not exceed
not_less : (x y : ℕ) → y ≤ x → is_lt (nat_cmp x y) ≡ false
not_less x y le = ap is_lt (cond-false (nat_lt x y) Less _ (le-ltb x y le)) ∙ cond_both (x == y) Equal Greater (λ (r : Ordering). is_lt r ≡ false) (λ e. refl) (λ e. refl)

-- the first of rising numbers is less than the next
next_greater : (i j : ℕ) → is_lt (nat_cmp i j) ≡ true → i < j
next_greater i j h = elim (cases_lt i j) [ inl lt ↦ lt | inr ge ↦ absurd (true≢false (sym h ∙ not_less i j ge)) ]

above_zip : (i : ℕ) (is os : List ℕ) → rises nat_cmp (i ∷ is) ≡ true → AreAbove i (zip is os)
above_zip i [] os h = All-nil (λ (p : ℕ × ℕ). i < p.0)
above_zip i (j ∷ js) [] h = All-nil (λ (p : ℕ × ℕ). i < p.0)
above_zip i (j ∷ js) (o ∷ os) h =
    let q : ℕ × ℕ = (j, o) in
    let lt : i < j = next_greater i j (and_first (is_lt (nat_cmp i j)) (rises nat_cmp (j ∷ js)) h) in
    All-cons (λ (p : ℕ × ℕ). i < p.0) q (zip js os) lt (lower_above i q lt (zip js os) (above_zip j js os (and_second (is_lt (nat_cmp i j)) (rises nat_cmp (j ∷ js)) h)))

rises_rest : (i : ℕ) (is : List ℕ) → rises nat_cmp (i ∷ is) ≡ true → rises nat_cmp is ≡ true
rises_rest i [] h = refl
rises_rest i (j ∷ js) h = and_second (is_lt (nat_cmp i j)) (rises nat_cmp (j ∷ js)) h

ascend_zip : (is os : List ℕ) → rises nat_cmp is ≡ true → Ascend (zip is os)
ascend_zip [] os h = tt
ascend_zip (i ∷ is) [] h = tt
ascend_zip (i ∷ is) (o ∷ os) h = (above_zip i is os h, ascend_zip is os (rises_rest i is h))

other_zip : (i : ℕ) (js ks : List ℕ) → ((j : ℕ) → Contains js j → i ≢ j) → AreOther i (zip js ks)
other_zip i [] ks f = All-nil (λ (p : ℕ × ℕ). i ≢ p.0)
other_zip i (j ∷ js) [] f = All-nil (λ (p : ℕ × ℕ). i ≢ p.0)
other_zip i (j ∷ js) (k ∷ ks) f = let q : ℕ × ℕ = (j, k) in All-cons (λ (p : ℕ × ℕ). i ≢ p.0) q (zip js ks) (f j (Contains-first j js)) (other_zip i js ks (λ n c. f n (Contains-later j n js c)))

apart_zip : (is os js ks : List ℕ) → ShareNone is js → AreApart (zip is os) (zip js ks)
apart_zip [] os js ks f = All-nil (λ (p : ℕ × ℕ). AreOther p.0 (zip js ks))
apart_zip (i ∷ is) [] js ks f = All-nil (λ (p : ℕ × ℕ). AreOther p.0 (zip js ks))
apart_zip (i ∷ is) (o ∷ os) js ks f =
    let q : ℕ × ℕ = (i, o) in
    All-cons (λ (p : ℕ × ℕ). AreOther p.0 (zip js ks)) q (zip is os) (other_zip i js ks (λ j c e. f i (Contains-first i is) (subst (Contains js) (sym e) c))) (apart_zip is os js ks (λ n c d. f n (Contains-later i n is c) d))

-- ---- pairs of both lists

zip_both : (is js offs : List ℕ) → length offs ≡ length is + length js → zip (is ++ js) offs ≡ zip is (take (length is) offs) ++ zip js (drop (length is) offs)
zip_both [] js offs e = refl
zip_both (i ∷ is) js [] e = absurd (omega (arith, e))
zip_both (i ∷ is) js (o ∷ offs) e = let q : ℕ × ℕ = (i, o) in ap (λ (l : List (ℕ × ℕ)). q ∷ l) (zip_both is js offs (omega (arith, e)))

module _ (is js offs : List ℕ) (many : length offs ≡ length is + length js) where
  pairs_both : rises nat_cmp is ≡ true → rises nat_cmp js ≡ true → ShareNone is js → pairs (is ++ js) offs ≡ kept (pairs_of_both is js offs)
  pairs_both h k f =
      let ps = zip is (take (length is) offs) in
      let qs = zip js (drop (length is) offs) in
      ap (λ (l : List (ℕ × ℕ)). in_order pair_cmp (kept l)) (zip_both is js offs many) ∙ merged_in_order ps qs (ascend_zip is (take (length is) offs) h) (ascend_zip js (drop (length is) offs) k) (apart_zip is (take (length is) offs) js (drop (length is) offs) f)

  count_both : length (kept (pairs_of_both is js offs)) ≡ count_placed offs
  count_both =
      let front = take (length is) offs in
      let back = drop (length is) offs in
      let all : count_placed (front ++ back) ≡ count_placed offs = ap count_placed (take-append-drop (length is) offs) in
      omega (
        arith,
        kept_count (zip is front) (zip js back),
        placed_count is front (omega (arith, length-take (length is) offs, many)),
        placed_count js back (omega (arith, length-drop (length is) offs, many)),
        placed_append front back,
        all,
      )

  both_size : length (both_bytes is js offs) ≡ 8 * count_placed offs
  both_size = omega (arith, pairs_size (pairs_of_both is js offs), count_both)

-- as many offsets as two lists have members
many_both : {X : Type 0} (number : X → ℕ) (xs ys : List X) {n : ℕ} → n ≡ length (xs ++ ys) → n ≡ length (map number xs) + length (map number ys)
many_both number xs ys e = omega (arith, e, length-append xs ys, length-map xs number, length-map ys number)

-- how many bytes a directory has
pub directory_size : (x : NumberedMembers) (own : ℕ) (fo mo po : List ℕ) → length fo ≡ length (fields_of x) → length mo ≡ length (methods_of x) → length po ≡ length (methods_of x)
    → length (numbered_directory_bytes x own fo mo po) ≡ 16 + 8 * (count_placed fo + count_placed mo + count_placed po)
directory_size x own fo mo po many_fields many_methods many_parameters =
    let s = x.static_fields in
    let t = x.instance_fields in
    let d = x.direct_methods in
    let v = x.virtual_methods in
    omega (arith, length-append {A = ℕ}, length-uint, both_size (field_numbers s) (field_numbers t) fo (many_both (λ f. f.number) s t many_fields), both_size (method_numbers d) (method_numbers v) mo (many_both (λ y. y.number) d v many_methods), both_size (method_numbers d) (method_numbers v) po (many_both (λ y. y.number) d v many_parameters))

-- ---- symbols

-- the bytes that are there
bytes_there : (b : Bool) (all bytes : List ℕ) → (if b then None else Some all) ≡ Some bytes → all ≡ bytes
bytes_there true all bytes e = absurd (let z : None ≡ Some bytes = e in cc)
bytes_there false all bytes e = ap (λ (o : Option (List ℕ)). unwrap_or o []) e

-- a directory of its pairs
abbrev pairs_directory : ℕ → List (ℕ × ℕ) → List (ℕ × ℕ) → List (ℕ × ℕ) → List ℕ
pairs_directory own fs ms ps = uint own ++ (uint (length fs) ++ (uint (length ms) ++ (uint (length ps) ++ (pairs_bytes fs ++ (pairs_bytes ms ++ pairs_bytes ps)))))

module _ (m : Mentions) (ranks : RanksAreNumbers m) (name : Text) where
  abbrev field_indices : List FieldDef → List ℕ
  field_indices fs = map (λ f. field_index m (field_of name f)) fs

  abbrev method_indices : List MethodDef → List ℕ
  method_indices xs = map (λ x. method_index m (method_of name x)) xs

  fields_numbered : (fs : List NumberedField) → All (IsKnownField m) fs → All (λ f. (field_at m f.number).class ≡ name) fs → field_indices (map (field_in m) fs) ≡ field_numbers fs
  fields_numbered fs h k = map_both (field_in m) (λ f. field_index m (field_of name f)) (λ (f : NumberedField). f.number) fs (λ i d lt. field_number m ranks name (get_or fs i d) (h i d lt) (k i d lt))

  methods_numbered : (xs : List NumberedMethod) → All (IsKnownMethod m) xs → All (λ x. (method_at m x.number).class ≡ name) xs → method_indices (map (method_in m) xs) ≡ method_numbers xs
  methods_numbered xs h k = map_both (method_in m) (λ x. method_index m (method_of name x)) (λ (x : NumberedMethod). x.number) xs (λ i d lt. method_number m ranks name (get_or xs i d) (h i d lt) (k i d lt))

  -- a directory is that of what the numbers denote
  pub directory_spelled : (c : Body) (x : NumberedMembers) (own : ℕ) (fo mo po : List ℕ) (sets : SetOffsets) (bytes : List ℕ) → AreKnownMembers m x → AreOrdered x → AreOfClass m name x → members_of c ≡ members_in m x
      → length fo ≡ length (fields_of x) → length mo ≡ length (methods_of x) → length po ≡ length (methods_of x)
      → sets.own ≡ own → sets.fields ≡ fo → map (λ offs. slice_index offs 0) sets.methods ≡ mo → directory_bytes m (name, c) sets po ≡ Some bytes → numbered_directory_bytes x own fo mo po ≡ bytes
  directory_spelled c x own fo mo po sets bytes h rise k same many_fields many_methods many_parameters is_own are_fields are_methods there =
      let OfFields : NumberedField → Type 0 = λ f. (field_at m f.number).class ≡ name in
      let OfMethods : NumberedMethod → Type 0 = λ y. (method_at m y.number).class ≡ name in
      let s = x.static_fields in
      let t = x.instance_fields in
      let d = x.direct_methods in
      let v = x.virtual_methods in
      let fields : field_indices (c.static_fields ++ c.instance_fields) ≡ field_numbers s ++ field_numbers t =
      ap (λ (y : Members). field_indices (y.static_fields ++ y.instance_fields)) same
      ∙ map-append (λ (f : FieldDef). field_index m (field_of name f)) (map (field_in m) s) (map (field_in m) t)
      ∙ (let e = fields_numbered s h.static_fields_known (all_prefix OfFields s t k.fields_of_class) in let f = fields_numbered t h.instance_fields_known (all_back OfFields s t k.fields_of_class) in λ i. e i ++ f i) in
      let methods : method_indices (c.direct_methods ++ c.virtual_methods) ≡ method_numbers d ++ method_numbers v =
      ap (λ (y : Members). method_indices (y.direct_methods ++ y.virtual_methods)) same
      ∙ map-append (λ (y : MethodDef). method_index m (method_of name y)) (map (method_in m) d) (map (method_in m) v)
      ∙ (let e = methods_numbered d h.direct_methods_known (all_prefix OfMethods d v k.methods_of_class) in let f = methods_numbered v h.virtual_methods_known (all_back OfMethods d v k.methods_of_class) in λ i. e i ++ f i) in
      let fm = many_both (λ (f : NumberedField). f.number) s t many_fields in
      let mm = many_both (λ (y : NumberedMethod). y.number) d v many_methods in
      let pm = many_both (λ (y : NumberedMethod). y.number) d v many_parameters in
      let fk = kept (pairs_of_both (field_numbers s) (field_numbers t) fo) in
      let mk = kept (pairs_of_both (method_numbers d) (method_numbers v) mo) in
      let pk = kept (pairs_of_both (method_numbers d) (method_numbers v) po) in
      let fe : pairs (field_indices (c.static_fields ++ c.instance_fields)) sets.fields ≡ fk = (λ i. pairs (fields i) (are_fields i)) ∙ pairs_both (field_numbers s) (field_numbers t) fo fm rise.static_fields_rise rise.instance_fields_rise rise.fields_apart in
      let me : pairs (method_indices (c.direct_methods ++ c.virtual_methods)) (map (λ offs. slice_index offs 0) sets.methods) ≡ mk =
      (λ i. pairs (methods i) (are_methods i)) ∙ pairs_both (method_numbers d) (method_numbers v) mo mm rise.direct_methods_rise rise.virtual_methods_rise rise.methods_apart in
      let pe : pairs (method_indices (c.direct_methods ++ c.virtual_methods)) po ≡ pk = ap (λ (l : List ℕ). pairs l po) methods ∙ pairs_both (method_numbers d) (method_numbers v) po pm rise.direct_methods_rise rise.virtual_methods_rise rise.methods_apart in
      let fc = count_both (field_numbers s) (field_numbers t) fo fm in
      let mc = count_both (method_numbers d) (method_numbers v) mo mm in
      let pc = count_both (method_numbers d) (method_numbers v) po pm in
      let fb = kept_bytes (pairs_of_both (field_numbers s) (field_numbers t) fo) in
      let mb = kept_bytes (pairs_of_both (method_numbers d) (method_numbers v) mo) in
      let pb = kept_bytes (pairs_of_both (method_numbers d) (method_numbers v) po) in
      let numbered : pairs_directory own fk mk pk ≡ numbered_directory_bytes x own fo mo po = λ i. uint own ++ (uint (fc i) ++ (uint (mc i) ++ (uint (pc i) ++ (fb i ++ (mb i ++ pb i))))) in
      let given = pairs_directory sets.own (pairs (field_indices (c.static_fields ++ c.instance_fields)) sets.fields) (pairs (method_indices (c.direct_methods ++ c.virtual_methods)) (map (λ offs. slice_index offs 0) sets.methods)) (pairs (method_indices (c.direct_methods ++ c.virtual_methods)) po) in
      let remapped : given ≡ pairs_directory own fk mk pk = λ i. pairs_directory (is_own i) (fe i) (me i) (pe i) in
      sym numbered ∙ sym remapped ∙ bytes_there _ given bytes there
