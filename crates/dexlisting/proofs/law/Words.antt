-- Tables of words of which none begins another: the word at the head of a text is one of them.
use Rattle.dexspec.proofs.Common.{◌≡◌, ℕ, zero, suc, ◌<◌, ◌==◌, ◌&&◌, Bool, true, false, if◌then◌else◌, List, [], ◌∷◌, ◌++◌, length, get_or, drop, list_all, refl, sym, ap, append_cancel_left, true≢false, and_parts, arith}
use Rattle.std.proofs.Common.{eq-eqb}

-- two words differ before one of them ends
abbrev pub apart : List ℕ → List ℕ → Bool
apart [] v = false
apart (a ∷ w) [] = false
apart (a ∷ w) (b ∷ v) = if a == b then apart w v else true

-- so do any two words of a table
abbrev pub all_apart : List (List ℕ) → Bool
all_apart [] = true
all_apart (w ∷ table) = list_all (apart w) table && all_apart table

-- texts that begin with such words differ
pub not_both : (w v r s : List ℕ) → apart w v ≡ true → w ++ r ≡ v ++ s → ⊥
not_both [] v r s is e = true≢false (sym is)
not_both (a ∷ w) [] r s is e = true≢false (sym is)
not_both (a ∷ w) (b ∷ v) r s is e =
    let same : (a == b) ≡ true = eq-eqb a b (ap (λ t. get_or t 0 a) e) in
    not_both w v r s (rw same at is) (ap (drop 1) e)

-- a word is apart from each of the others
apart_from : (w : List ℕ) (table : List (List ℕ)) (i : ℕ) → list_all (apart w) table ≡ true → i < length table → apart w (get_or table i []) ≡ true
apart_from w [] i all lt = absurd (omega arith)
apart_from w (v ∷ table) zero all lt = (and_parts (apart w v) (list_all (apart w) table) all).0
apart_from w (v ∷ table) (suc i) all lt = apart_from w table i (and_parts (apart w v) (list_all (apart w) table) all).1 (omega (arith, lt))

-- the word at the head of a text
pub one_word : (table : List (List ℕ)) → all_apart table ≡ true → (i j : ℕ) → i < length table → j < length table
    → (r s : List ℕ) → get_or table i [] ++ r ≡ get_or table j [] ++ s → (i ≡ j) × (r ≡ s)
one_word [] is i j li lj r s e = absurd (omega arith)
one_word (w ∷ table) is zero zero li lj r s e = (refl, append_cancel_left w r s e)
one_word (w ∷ table) is zero (suc j) li lj r s e =
    absurd (not_both w (get_or table j []) r s (apart_from w table j (and_parts (list_all (apart w) table) (all_apart table) is).0 (omega (arith, lj))) e)
one_word (w ∷ table) is (suc i) zero li lj r s e =
    absurd (not_both w (get_or table i []) s r (apart_from w table i (and_parts (list_all (apart w) table) (all_apart table) is).0 (omega (arith, li))) (sym e))
one_word (w ∷ table) is (suc i) (suc j) li lj r s e =
    let p = one_word table (and_parts (list_all (apart w) table) (all_apart table) is).1 i j (omega (arith, li)) (omega (arith, lj)) r s e in
    (ap suc p.0, p.1)
