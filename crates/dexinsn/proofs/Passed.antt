-- Units checked in one pass.
use Rattle.dexinsn.proofs.Common.{and_right, ◌≡◌, ℕ, ◌+◌, ◌-◌, ◌/◌, ◌<◌, ◌≤◌, ◌||◌, ◌&&◌, pos, Bool, true, false, List, [], ◌∷◌, ◌++◌, length, drop, slice_index, replicate, Some, None, inl, inr, refl, ap, sym, ◌∙◌, subst, arith, zero-add, length-drop, length-append, ◌↔◌, All, int_eq, cases_eq, drop-drop, drop_all, length-replicate, All-push, All-head, All-tail, All-append, list_any-append, Mentions, Cut, AreCut, index_pool, piece_size, BreaksAt, FitsAt, IsInRange, indices_at, with_index_at, IsPieceAt, starts_with, units_of_all, AreBitsOf, AreCutWith, ArePassed, HasNoCode, HasNoStep, IndexCount, IsOutside, begins_instruction, is_noted, HasBit, map-append, cut_of, cuts_of}
use Rattle.dexinsn.proofs.CodeRead.{broken_is_none}
use Rattle.dexinsn.proofs.IndicesRead.{indices_push}
use Rattle.dexinsn.proofs.Once.{nothing}
use Rattle.dexinsn.proofs.IndexRoom.{piece_size-fits}
use Rattle.dexinsn.proofs.Starts.{int_eq-same, int_eq-other}
use Rattle.dexinsn.proofs.StartBits.{or_nothing, or_last, none_set}
use Rattle.dexinsn.specs.declared.code.Cut.{Cut as CutOfCode}

-- ---- Cutting on by one piece

pub AreCut-push : (at : ℕ) (us rest : List ℕ) (cs : List Cut) (c : Cut) → AreCut at us cs rest → at + units_of_all cs ≡ c.unit → piece_size c.unit rest ≡ Some c.units → AreCut at us (cs ++ c ∷ []) (drop c.units rest)
AreCut-push at us rest [] c cut reached is = let here : at ≡ c.unit = omega arith in (sym here, ap (piece_size at) cut ∙ ap (λ (p : ℕ). piece_size p rest) here ∙ is, ap (drop c.units) cut)
AreCut-push at us rest (b ∷ cs) c cut reached is = (cut.0, cut.1, AreCut-push (at + b.units) (drop b.units us) rest cs c cut.2 (omega arith) is)

pub units_of_all-push : (cs : List Cut) (c : Cut) → units_of_all (cs ++ c ∷ []) ≡ units_of_all cs + c.units
units_of_all-push [] c = omega arith
units_of_all-push (b ∷ cs) c = let on : units_of_all (cs ++ c ∷ []) ≡ units_of_all cs + c.units = units_of_all-push cs c in omega arith

pub cuts_of-push : (cuts : List CutOfCode) (c : CutOfCode) → cuts_of (cuts ++ c ∷ []) ≡ cuts_of cuts ++ cut_of c ∷ []
cuts_of-push cuts c = map-append cut_of cuts (c ∷ [])

-- ---- bits

bits_more : (test : ℕ → Bool) (us : List ℕ) (cs : List Cut) (c : Cut) (k : ℕ) → starts_with test us (cs ++ c ∷ []) (pos k) ≡ (starts_with test us cs (pos k) || ((int_eq (pos c.unit) (pos k) && test (slice_index us c.unit)) || false))
bits_more test us cs c k = list_any-append (λ (d : Cut). int_eq (pos d.unit) (pos k) && test (slice_index us d.unit)) cs (c ∷ [])

-- a piece that does not pass the test has no bit
pub bits_stay : (test : ℕ → Bool) (us : List ℕ) (cs : List Cut) (c : Cut) (words : List ℕ) → test (slice_index us c.unit) ≡ false → AreBitsOf test us cs words → AreBitsOf test us (cs ++ c ∷ []) words
bits_stay test us cs c words fails before = record {
  room = before.room;
  each = λ k.
      let same = bits_more test us cs c k ∙ or_nothing (starts_with test us cs (pos k)) _ (and_right (int_eq (pos c.unit) (pos k)) _ fails) in
      (λ has. same ∙ (before.each k).0 has, λ e. (before.each k).1 (sym same ∙ e));
  inside = before.inside;
}

-- one that does has one
pub bits_grow : (test : ℕ → Bool) (us : List ℕ) (cs : List Cut) (c : Cut) (words new : List ℕ) → test (slice_index us c.unit) ≡ true → c.unit < length us → length new ≡ length words → HasBit new c.unit
    → ((k : ℕ) → (k ≡ c.unit → ⊥) → HasBit new k ↔ HasBit words k) → AreBitsOf test us cs words → AreBitsOf test us (cs ++ c ∷ []) new
bits_grow test us cs c words new passes inside long here others before = record {
  room = long ∙ before.room;
  each = λ k. elim (cases_eq c.unit k) [
    | inl same ↦
        (λ has. (bits_more test us cs c k ∙ or_last (starts_with test us cs (pos k)) _ (rw (int_eq-same c.unit k same, passes))), λ e. subst (HasBit new) same here)
    | inr other ↦
        let as_before = bits_more test us cs c k ∙ or_nothing (starts_with test us cs (pos k)) _ (rw (int_eq-other c.unit k other)) in
        let bits = others k (λ e. other (sym e)) in (λ has. as_before ∙ (before.each k).0 (bits.0 has), λ e. bits.1 ((before.each k).1 (sym as_before ∙ e)))
  ];
  inside = λ k has. elim (cases_eq c.unit k) [
    | inl same ↦ omega arith
    | inr other ↦ before.inside k ((others k (λ e. other (sym e))).0 has)
  ];
}

-- with the same bits in other words
bits_same : (test : ℕ → Bool) (us : List ℕ) (cs : List Cut) (words new : List ℕ) → length new ≡ length words → ((k : ℕ) → HasBit new k ↔ HasBit words k) → AreBitsOf test us cs words → AreBitsOf test us cs new
bits_same test us cs words new long same before = record {
  room = long ∙ before.room;
  each = λ k. (λ has. (before.each k).0 ((same k).0 has), λ e. (same k).1 ((before.each k).1 e));
  inside = λ k has. before.inside k ((same k).0 has);
}

-- a piece has a bit if its first unit passes the test
pub bits_put : (test : ℕ → Bool) (us : List ℕ) (cs : List Cut) (c : Cut) (words new : List ℕ) (bit : Bool) → bit ≡ test (slice_index us c.unit) → c.unit < length us → length new ≡ length words → (bit ≡ true → HasBit new c.unit)
    → ((k : ℕ) → (k ≡ c.unit → bit ≡ true → ⊥) → HasBit new k ↔ HasBit words k) → AreBitsOf test us cs words → AreBitsOf test us (cs ++ c ∷ []) new
bits_put test us cs c words new true is inside long here others before = bits_grow test us cs c words new (sym is) inside long (here refl) (λ k other. others k (λ e t. other e)) before
bits_put test us cs c words new false is inside long here others before = bits_stay test us cs c new (sym is) (bits_same test us cs words new long (λ k. others k (λ e t. absurd cc)) before)

-- ---- pieces

-- where pieces go on, some piece of the whole begins
next_in : (P : Cut → Type 0) (a : ℕ) (us rest : List ℕ) (cs ds : List Cut) → AreCut a us cs rest → AreCut a us ds [] → 0 < length rest → All P ds → (d : Cut) × (d.unit ≡ a + units_of_all cs) × P d
next_in P a us rest [] [] e f some all = absurd (omega (arith, some, ap (length {A = ℕ}) (sym e ∙ f)))
next_in P a us rest [] (d ∷ ds) e f some all = (d, omega (arith, f.0), All-head P d ds all)
next_in P a us rest (c ∷ cs) [] e f some all = let none : piece_size a us ≡ None = ap (piece_size a) f ∙ nothing a in let is = e.1 in absurd cc
next_in P a us rest (c ∷ cs) (d ∷ ds) e f some all =
    let both : Some c.units ≡ Some d.units = sym e.1 ∙ f.1 in
    let same : c.units ≡ d.units = cc in
    let found = next_in P (a + c.units) (drop c.units us) rest cs ds e.2 (subst (λ (k : ℕ). AreCut (a + k) (drop k us) ds []) (sym same) f.2) some (All-tail P d ds all) in (found.0, omega (arith, found.1), found.2)

-- a piece more
pub one_passed : (us : List ℕ) (m : Mentions) (starts noted news newn : List ℕ) (at indices size count : ℕ) → ArePassed us m starts noted at indices → at < length us → piece_size at (drop at us) ≡ Some size → 0 < size → IndexCount us m at count
    → ((cs : List Cut) (n : ℕ) → AreBitsOf begins_instruction us cs starts → AreBitsOf begins_instruction us (cs ++ record { unit = at; units = n } ∷ []) news)
    → ((cs : List Cut) (n : ℕ) → AreBitsOf is_noted us cs noted → AreBitsOf is_noted us (cs ++ record { unit = at; units = n } ∷ []) newn)
    → ArePassed us m news newn (at + size) (indices + count)
one_passed us m starts noted news newn at indices size count h more is some index s n =
    let c : Cut = record { unit = at; units = size } in
    let fits : size ≤ length (drop at us) = (piece_size-fits at (drop at us) size is).1 in
    record {
      cuts = h.cuts ++ c ∷ [];
      cut = subst (λ (rest : List ℕ). AreCut 0 us (h.cuts ++ c ∷ []) rest) (drop-drop size at us) (AreCut-push 0 us (drop at us) h.cuts c h.cut (zero-add (units_of_all h.cuts) ∙ h.reached) is);
      reached = units_of_all-push h.cuts c ∙ ap (λ (k : ℕ). k + size) h.reached;
      within = let l : length (drop at us) ≡ length us - at = length-drop at us in omega (arith, h.within);
      pieces = All-push (IsPieceAt us) h.cuts c h.pieces is;
      in_range = All-push (IsInRange us m) h.cuts c h.in_range (index.in_range size);
      counted =
          omega (arith, ap length (indices_push us h.cuts c), length-append (indices_at us h.cuts) (with_index_at (index_pool (drop at us)) us c []), h.counted, index.counted size);
      few = omega (arith, h.few, index.few);
      fit = subst (All (FitsAt us)) (sym (indices_push us h.cuts c)) (All-append (FitsAt us) (indices_at us h.cuts) (with_index_at (index_pool (drop at us)) us c []) h.fit (index.fit size));
      starts_are = s h.cuts size h.starts_are;
      noted_are = n h.cuts size h.noted_are;
    }

-- where no piece begins there is no code
no_piece : (us : List ℕ) (m : Mentions) (starts noted : List ℕ) (at indices : ℕ) → ArePassed us m starts noted at indices → at < length us → piece_size at (drop at us) ≡ None → HasNoCode us m
no_piece us m starts noted at indices h more none = λ cuts code all. broken_is_none us at (record { cuts = h.cuts; within = more; cut = h.cut; none = none }) cuts code

-- where an index is out of range there is none with all in range
no_index : (us : List ℕ) (m : Mentions) (starts noted : List ℕ) (at indices : ℕ) → ArePassed us m starts noted at indices → at < length us → IsOutside us m at → HasNoCode us m
no_index us m starts noted at indices h more outside = λ cuts code all.
    let found = next_in (IsInRange us m) 0 us (drop at us) h.cuts cuts h.cut code.cut (omega (arith, length-drop at us)) all in outside found.0 (omega (arith, found.1, h.reached)) found.2

-- by what is missing
pub no_step : (us : List ℕ) (m : Mentions) (starts noted : List ℕ) (at indices : ℕ) → ArePassed us m starts noted at indices → at < length us → HasNoStep us m at → HasNoCode us m
no_step us m starts noted at indices h more (inl none) = no_piece us m starts noted at indices h more none
no_step us m starts noted at indices h more (inr outside) = no_index us m starts noted at indices h more outside

pub all_cut : (us : List ℕ) (m : Mentions) (starts noted : List ℕ) (indices : ℕ) → (h : ArePassed us m starts noted (length us) indices) → AreCut 0 us h.cuts []
all_cut us m starts noted indices h = subst (λ (rest : List ℕ). AreCut 0 us h.cuts rest) (drop_all (length us) us (omega arith)) h.cut

-- no bit is set yet
pub none_bits : (test : ℕ → Bool) (us words : List ℕ) (n : ℕ) → n ≡ length us / 64 + 2 → words ≡ replicate n 0 → AreBitsOf test us [] words
none_bits test us words n room is = subst (AreBitsOf test us []) (sym is) record {
  room = length-replicate {A = ℕ} n 0 ∙ room;
  each = λ k. (λ has. absurd (none_set n k has), λ e. absurd cc);
  inside = λ k has. absurd (none_set n k has);
}

-- ---- cuts that are kept

-- a piece more is cut off
pub one_cut_more : (us : List ℕ) (cs : List Cut) (starts noted news newn : List ℕ) (at size : ℕ) → AreCutWith us cs starts noted at → at < length us → piece_size at (drop at us) ≡ Some size
    → ((cs : List Cut) (n : ℕ) → AreBitsOf begins_instruction us cs starts → AreBitsOf begins_instruction us (cs ++ record { unit = at; units = n } ∷ []) news)
    → ((cs : List Cut) (n : ℕ) → AreBitsOf is_noted us cs noted → AreBitsOf is_noted us (cs ++ record { unit = at; units = n } ∷ []) newn)
    → AreCutWith us (cs ++ record { unit = at; units = size } ∷ []) news newn (at + size)
one_cut_more us cs starts noted news newn at size h more is s n =
    let c : Cut = record { unit = at; units = size } in
    record {
      cut = subst (λ (rest : List ℕ). AreCut 0 us (cs ++ c ∷ []) rest) (drop-drop size at us) (AreCut-push 0 us (drop at us) cs c h.cut (zero-add (units_of_all cs) ∙ h.reached) is);
      reached = units_of_all-push cs c ∙ ap (λ (k : ℕ). k + size) h.reached;
      within = let l : length (drop at us) ≡ length us - at = length-drop at us in omega (arith, h.within, (piece_size-fits at (drop at us) size is).1);
      pieces = All-push (IsPieceAt us) cs c h.pieces is;
      starts_are = s cs size h.starts_are;
      noted_are = n cs size h.noted_are;
    }

-- where no piece begins the cut breaks
pub cut_breaks : (us : List ℕ) (cs : List Cut) (starts noted : List ℕ) (at : ℕ) → AreCutWith us cs starts noted at → at < length us → piece_size at (drop at us) ≡ None → BreaksAt us at
cut_breaks us cs starts noted at h more none = record { cuts = cs; within = more; cut = h.cut; none = none }

pub whole_cut : (us : List ℕ) (cs : List Cut) (starts noted : List ℕ) → AreCutWith us cs starts noted (length us) → AreCut 0 us cs []
whole_cut us cs starts noted h = subst (λ (rest : List ℕ). AreCut 0 us cs rest) (drop_all (length us) us (omega arith)) h.cut
