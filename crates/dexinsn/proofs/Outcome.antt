-- What a cut without a wrong target, or with one, says of the units.
use Rattle.dexinsn.proofs.Common.{◌≡◌, ℕ, ◌<◌, Bool, true, false, not, cond, List, [], ◌∷◌, length, drop, drop-cons, add-one, get_or, ◌+◌, Option, Some, None, refl, ap, sym, subst, ◌∙◌, IsTrue, All, find, option_map, All-nil, All-cons, All-get_or, length-map, IsCode, has_right_targets, piece_size, HasBadTargetAt, IsPieceAt, cut_of, cuts_of, first_bad_target, first_bad_target_of, AreCutWith, AreNoted}
use Rattle.std.specs.Option.{IsSome}
use Rattle.std.proofs.Math.ListN.{get_or-map}
use Rattle.dexspec.specs.Pieces.{Cut}
use Rattle.dexinsn.specs.declared.code.Cut.{Cut as CutOfCode}
use Rattle.dexinsn.proofs.Passed.{whole_cut}
use Rattle.dexinsn.proofs.NotedTargets.{bits_noted}

-- where no element fails the test, each passes
found_none : {X : Type 0} (test : X → Bool) (unit : X → ℕ) (x : X) (xs : List X) (b : Bool) → test x ≡ b → option_map unit (cond (not b) (Some x) (find (λ y. not (test y)) xs)) ≡ None
    → (option_map unit (find (λ y. not (test y)) xs) ≡ None → All (λ y. IsTrue (test y)) xs) → All (λ y. IsTrue (test y)) (x ∷ xs)
found_none test unit x xs true is none on = All-cons (λ y. IsTrue (test y)) x xs is (on none)
found_none test unit x xs false is none on = cc

All-find : {X : Type 0} (test : X → Bool) (unit : X → ℕ) (xs : List X) → option_map unit (find (λ y. not (test y)) xs) ≡ None → All (λ y. IsTrue (test y)) xs
All-find test unit [] none = All-nil (λ y. IsTrue (test y))
All-find test unit (x ∷ xs) none = found_none test unit x xs (test x) refl none (All-find test unit xs)

pub cut_code : (us : List ℕ) (cs : List Cut) (starts noted : List ℕ) → 0 < length us → AreCutWith us cs starts noted (length us) → first_bad_target us cs ≡ None → IsCode us cs
cut_code us cs starts noted some h none = record { some = some; cut = whole_cut us cs starts noted h; targets = All-find (has_right_targets us cs) (λ c. c.unit) cs none }

pub cut_bad_target : (us : List ℕ) (cs : List Cut) (starts noted : List ℕ) (n : ℕ) → AreCutWith us cs starts noted (length us) → first_bad_target us cs ≡ Some n → HasBadTargetAt us n
cut_bad_target us cs starts noted n h first = record { cuts = cs; cut = whole_cut us cs starts noted h; first = first }

-- each bit is that of a piece
pub cut_noted : (us : List ℕ) (cs : List Cut) (starts noted : List ℕ) → AreCutWith us cs starts noted (length us) → AreNoted us noted
cut_noted us cs starts noted h = bits_noted us cs noted h.pieces h.noted_are

-- ---- the first with a wrong target, one piece after the other

rest_is : (cuts : List CutOfCode) (i : ℕ) (d : CutOfCode) → i < length cuts → cuts_of (drop i cuts) ≡ cut_of (get_or cuts i d) ∷ cuts_of (drop (i + 1) cuts)
rest_is cuts i d lt = ap cuts_of (drop-cons cuts i d lt ∙ ap (λ (k : ℕ). get_or cuts i d ∷ drop k cuts) (sym (add-one i)))

pub bad_target_here : (us : List ℕ) (cs : List Cut) (cuts : List CutOfCode) (i : ℕ) (d : CutOfCode) → i < length cuts → false ≡ has_right_targets us cs (cut_of (get_or cuts i d)) → first_bad_target_of us cs (cuts_of (drop i cuts)) ≡ Some (get_or cuts i d).unit
bad_target_here us cs cuts i d lt wrong =
    ap (first_bad_target_of us cs) (rest_is cuts i d lt)
    ∙ ap (λ (b : Bool). option_map (λ (e : Cut). e.unit) (cond (not b) (Some (cut_of (get_or cuts i d))) (find (λ e. not (has_right_targets us cs e)) (cuts_of (drop (i + 1) cuts))))) (sym wrong)

pub bad_target_on : (us : List ℕ) (cs : List Cut) (cuts : List CutOfCode) (i : ℕ) (d : CutOfCode) → i < length cuts → true ≡ has_right_targets us cs (cut_of (get_or cuts i d)) → first_bad_target_of us cs (cuts_of (drop i cuts)) ≡ first_bad_target_of us cs (cuts_of (drop (i + 1) cuts))
bad_target_on us cs cuts i d lt right =
    ap (first_bad_target_of us cs) (rest_is cuts i d lt)
    ∙ ap (λ (b : Bool). option_map (λ (e : Cut). e.unit) (cond (not b) (Some (cut_of (get_or cuts i d))) (find (λ e. not (has_right_targets us cs e)) (cuts_of (drop (i + 1) cuts))))) (sym right)

-- each of the pieces begins where it says
pub piece_there : (us : List ℕ) (cuts : List CutOfCode) (i : ℕ) (d : CutOfCode) → i < length cuts → All (IsPieceAt us) (cuts_of cuts) → IsSome (piece_size (get_or cuts i d).unit (drop (get_or cuts i d).unit us))
piece_there us cuts i d lt pieces =
    let is : IsPieceAt us (cut_of (get_or cuts i d)) = subst (IsPieceAt us) (get_or-map cut_of cuts i d) (All-get_or (IsPieceAt us) (cuts_of cuts) i (cut_of d) (subst (λ (n : ℕ). i < n) (sym (length-map cuts cut_of)) lt) pieces) in
    subst (λ (o : Option ℕ). IsSome o) (sym is) refl
