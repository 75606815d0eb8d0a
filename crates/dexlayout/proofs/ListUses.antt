-- The type lists of a file, written use by use: each where its first use is.
use Rattle.dexlayout.proofs.Common.{◌≡◌, ℕ, ◌+◌, ◌<◌, ◌≤◌, ◌^◌, inl, inr, List, [], ◌∷◌, ◌++◌, length, get_or, map, take, drop, length-map, length-take, sym, ap, subst, ◌∙◌, arith, append-nil, append_assoc, length-append, map-append, map-map, Option, Some, slice_index, option_map, option_map_or, position_or_len, flat_map, Text, Mentions, NumberedClass, AreWritable, definition_of, interfaces_use, ordered_of, ranks_are_numbers, type_at, type_index, AreTypes, list_bytes, type_list_bytes, type_list_uses, type_list_section, data_start, uses_offsets, unless_empty, ushort, uint, padding, round_up, offsets, end_from, end_from_le, bytes_from, present, present-append, distinct, same_types, types_decide}
use Rattle.std.proofs.Common.{take-append-drop}
use Rattle.dexspec.specs.Placing.{section_bytes}
use Rattle.dexspec.specs.Symbols.{Proto}
use Rattle.dexspec.proofs.layout.Placements.{length-type_list_offsets}
use Rattle.dexspec.proofs.lists.Distinct.{distinct_prefix}
use Rattle.dexspec.proofs.numbers.ByteNumbers.{length-uint}
use Rattle.dexlayout.proofs.EncodedUses.{drop_next}
use Rattle.dexlayout.proofs.Ends.{end_in_file}
use Rattle.dexlayout.proofs.FirstUses.{IsFirstOrNot, bytes_more, end_more, first_or_not, items_of, offset_in, use_at}
use Rattle.dexlayout.proofs.OwnCounts.{starts}
use Rattle.dexlayout.proofs.SharedKinds.{list_bytes_are, list_uses_are}
use Rattle.dexlayout.proofs.SharedUses.{uses_next}

-- a list that is used is not empty
used_list : {X Y : Type 0} (g : X → Y) (ns : List X) (ts : List Y) → unless_empty (map g ns) ≡ Some ts → map g ns ≡ ts
used_list g [] ts e = absurd cc
used_list g (n ∷ ns) ts e = let parts : Some (map g (n ∷ ns)) ≡ Some ts = e in cc

-- items end no earlier with more after them
end_joined : (align from : ℕ) (xs ys : List (List ℕ)) → end_from align from xs ≤ end_from align from (xs ++ ys)
end_joined align from [] ys = end_from_le align from ys
end_joined align from (x ∷ xs) ys = end_joined align (round_up align from + length x) xs ys

module _ (m : Mentions) (cs : List NumberedClass) where
  pub some_bytes : (ts : List Text) → 0 < length (type_list_bytes m ts)
  some_bytes ts = omega (arith, length-append (uint (length ts)) (flat_map (λ t. ushort (type_index m t)) ts), length-uint (length ts))

  -- the lists of uses
  abbrev lists_of : List (Option (List Text)) → List (List ℕ)
  lists_of us = items_of same_types types_decide (type_list_bytes m) some_bytes (data_start (ordered_of m cs)) (starts (ordered_of m cs)) us

  -- those of some uses were given to an output, and end at an offset
  pub record ListsGiven {O : Type 0} (gives : List ℕ → O → O → Type 0) (start : O) (us : List (Option (List Text))) (at : ℕ) (now : O) : Type 0 where
    pub ends : at ≡ end_from 4 (data_start (ordered_of m cs)) (lists_of us)
    pub given : gives (bytes_from 4 (data_start (ordered_of m cs)) (lists_of us)) start now

  -- those of all uses are the section
  pub lists_given : {O : Type 0} {gives : List ℕ → O → O → Type 0} {start now : O} {us : List (Option (List Text))} {at : ℕ} → us ≡ type_list_uses (ordered_of m cs) → ListsGiven gives start us at now → gives (section_bytes (type_list_section (ordered_of m cs))) start now
  unfolding type_list_section
  lists_given {gives = gives} {start} {now} e h = subst (λ vs. gives (bytes_from 4 (data_start (ordered_of m cs)) (lists_of vs)) start now) e h.given

  -- a list of numbers is that of one use, after some and before others, and has this offset
  pub record IsUse (us vs : List (Option (List Text))) (ns : List ℕ) (off : ℕ) : Type 0 where
    pub all : us ++ unless_empty (map (type_at m) ns) ∷ vs ≡ type_list_uses (ordered_of m cs)
    pub at : off ≡ slice_index (uses_offsets (type_list_section (ordered_of m cs))) (length us)
    pub known : AreTypes m ns

  module _ (w : AreWritable m cs) {us vs : List (Option (List Text))} {ns : List ℕ} {off : ℕ} (one : IsUse us vs ns off) where
    abbrev this : Option (List Text)
    this = unless_empty (map (type_at m) ns)

    off_is : off ≡ offset_in same_types types_decide (type_list_bytes m) some_bytes (data_start (ordered_of m cs)) (starts (ordered_of m cs)) (distinct same_types (present (us ++ this ∷ vs))) this
    unfolding type_list_section
    off_is =
        let K = ordered_of m cs in
        let items = distinct same_types (present (type_list_uses K)) in
        let number : Option (List Text) → Option ℕ = option_map (λ ts. position_or_len (λ us. same_types us ts) items) in
        let off_of : Option ℕ → ℕ = λ n. option_map_or (slice_index (offsets (type_list_section K))) n 0 in
        one.at ∙ ap (λ (os : List ℕ). slice_index os (length us)) (map-map off_of number (type_list_uses K))
        ∙ ap (λ ys. slice_index (map (λ u. off_of (number u)) ys) (length us)) (sym one.all)
        ∙ use_at (λ u. off_of (number u)) us this vs
        ∙ ap (λ ys. offset_in same_types types_decide (type_list_bytes m) some_bytes (data_start K) (starts K) (distinct same_types (present ys)) this) (sym one.all)

    first : IsFirstOrNot same_types types_decide (type_list_bytes m) some_bytes (data_start (ordered_of m cs)) (starts (ordered_of m cs)) us this off
    first = subst (IsFirstOrNot same_types types_decide (type_list_bytes m) some_bytes (data_start (ordered_of m cs)) (starts (ordered_of m cs)) us this) (sym off_is) (first_or_not same_types types_decide (type_list_bytes m) some_bytes (data_start (ordered_of m cs)) (starts (ordered_of m cs)) us this vs)

    -- the bytes of the list
    bytes_are : (ts : List Text) → this ≡ Some ts → list_bytes ns ≡ type_list_bytes m ts
    bytes_are ts e = list_bytes_are m ns (ranks_are_numbers m w.numbering.rising) one.known ∙ ap (type_list_bytes m) (used_list (type_at m) ns ts e)

    -- the lists of the uses up to this one end within the file
    ends_within : end_from 4 (data_start (ordered_of m cs)) (lists_of (us ++ this ∷ [])) ≤ 2 ^ 30
    unfolding type_list_section
    ends_within =
        let K = ordered_of m cs in
        let f = type_list_bytes m in
        let front = present (us ++ this ∷ []) in
        let more = distinct_prefix same_types types_decide front (present vs) in
        let items : map f (distinct same_types (present (type_list_uses K))) ≡ map f (distinct same_types front) ++ map f more.0 =
        ap (λ ys. map f (distinct same_types (present ys))) (sym one.all ∙ sym (append_assoc us (this ∷ []) vs)) ∙ ap (λ xs. map f (distinct same_types xs)) (present-append (us ++ this ∷ []) vs) ∙ ap (map f) more.1 ∙ map-append f (distinct same_types front) more.0 in
        omega (arith, end_joined 4 (data_start K) (map f (distinct same_types front)) (map f more.0), ap (end_from 4 (data_start K)) items, (end_in_file K w.fits).type_lists)

    module _ {O : Type 0} {gives : List ℕ → O → O → Type 0} {start now : O} {at : ℕ} (h : ListsGiven gives start us at now) where
      -- a list that is written fits
      pub first_fits : at ≤ off → round_up 4 at + length (list_bytes ns) ≤ 2 ^ 30
      first_fits le = elim first [
        | inl known_one ↦ absurd (omega (arith, le, known_one.0, h.ends))
        | inr new ↦
            let ended : end_from 4 (data_start (ordered_of m cs)) (lists_of (us ++ this ∷ [])) ≡ round_up 4 (end_from 4 (data_start (ordered_of m cs)) (lists_of us)) + length (type_list_bytes m new.0) =
            ap (end_from 4 (data_start (ordered_of m cs))) new.3 ∙ end_more 4 (data_start (ordered_of m cs)) (lists_of us) (type_list_bytes m new.0) in
            let len : length (list_bytes ns) ≡ length (type_list_bytes m new.0) = ap (λ (l : List ℕ). length l) (bytes_are new.0 new.1) in
            omega (arith, ends_within, ended, len, ap (round_up 4) h.ends)
      ]

      -- a use more
      pub use_given : {end : ℕ} {next : O} → ((x y : List ℕ) (a b c : O) → gives x a b → gives y b c → gives (x ++ y) a c) → (off < at → (end ≡ at) × gives [] now next)
          → (at ≤ off → (end ≡ round_up 4 at + length (list_bytes ns)) × gives (padding 4 at ++ list_bytes ns) now next) → ListsGiven gives start (us ++ this ∷ []) end next
      use_given {end} {next} both skipped written = elim first [
        | inl known_one ↦
            let call = skipped (omega (arith, known_one.0, h.ends)) in
            record {
              ends = call.0 ∙ h.ends ∙ ap (end_from 4 (data_start (ordered_of m cs))) (sym known_one.1);
              given = subst (λ bs. gives bs start next) (append-nil (bytes_from 4 (data_start (ordered_of m cs)) (lists_of us)) ∙ ap (bytes_from 4 (data_start (ordered_of m cs))) (sym known_one.1)) (both (bytes_from 4 (data_start (ordered_of m cs)) (lists_of us)) [] start now next h.given call.1);
            }
        | inr new ↦
            let from = data_start (ordered_of m cs) in
            let x = type_list_bytes m new.0 in
            let call = written (omega (arith, new.2, h.ends)) in
            let bytes = bytes_are new.0 new.1 in
            record {
              ends = call.0 ∙ (λ i. round_up 4 (h.ends i) + length (bytes i)) ∙ sym (end_more 4 from (lists_of us) x) ∙ ap (end_from 4 from) (sym new.3);
              given = subst (λ bs. gives bs start next) ((λ i. bytes_from 4 from (lists_of us) ++ (padding 4 (h.ends i) ++ bytes i)) ∙ sym (bytes_more 4 from (lists_of us) x) ∙ ap (bytes_from 4 from) (sym new.3))
                  (both (bytes_from 4 from (lists_of us)) (padding 4 at ++ list_bytes ns) start now next h.given call.1);
            }
      ]

-- ---- the uses of protos, and of classes

-- those before one, that one, and those after it
split_uses : {X U : Type 0} (g : X → U) (xs : List X) (i : ℕ) (x : X) → i < length xs → get_or xs i x ≡ x → map g (take i xs) ++ (g x ∷ map g (drop (i + 1) xs)) ≡ map g xs
split_uses g xs i x lt is = sym (map-append g (take i xs) (x ∷ drop (i + 1) xs)) ∙ ap (λ ys. map g (take i xs ++ ys)) (sym (drop_next xs i x lt is)) ∙ ap (map g) (take-append-drop i xs)

-- that of a proto
abbrev pub proto_use : Proto → Option (List Text)
proto_use p = unless_empty p.parameters

module _ (m : Mentions) (cs : List NumberedClass) (offs : List ℕ) (are : offs ≡ uses_offsets (type_list_section (ordered_of m cs))) where
  -- there is an offset for each
  pub offsets_enough : length offs ≡ length m.protos + length cs
  offsets_enough = omega (arith, ap (λ (os : List ℕ). length os) are, length-type_list_offsets (ordered_of m cs), length-map cs (definition_of m))

  module _ (i : ℕ) (p : Proto) (ns : List ℕ) (lt : i < length m.protos) (is : get_or m.protos i p ≡ p) (means : map (type_at m) ns ≡ p.parameters) (known : AreTypes m ns) where
    pub proto_is : IsUse m cs (map proto_use (take i m.protos)) (map proto_use (drop (i + 1) m.protos) ++ map (interfaces_use m) cs) ns (slice_index offs i)
    proto_is =
        let before = map proto_use (take i m.protos) in
        record {
          all = ap (λ ts. before ++ unless_empty ts ∷ (map proto_use (drop (i + 1) m.protos) ++ map (interfaces_use m) cs)) means
              ∙ sym (append_assoc before (proto_use p ∷ map proto_use (drop (i + 1) m.protos)) (map (interfaces_use m) cs))
              ∙ ap (λ us. us ++ map (interfaces_use m) cs) (split_uses proto_use m.protos i p lt is) ∙ list_uses_are m cs;
          at = (let place : i ≡ length before = omega (arith, length-map (take i m.protos) proto_use, length-take i m.protos, lt) in λ k. slice_index (are k) (place k));
          known = known;
        }

    pub proto_next : map proto_use (take i m.protos) ++ unless_empty (map (type_at m) ns) ∷ [] ≡ map proto_use (take (i + 1) m.protos)
    proto_next = ap (λ ts. map proto_use (take i m.protos) ++ unless_empty ts ∷ []) means ∙ uses_next proto_use [] m.protos i p lt is

  module _ (i place : ℕ) (c : NumberedClass) (ns : List ℕ) (lt : i < length cs) (is : get_or cs i c ≡ c) (means : ns ≡ c.interfaces) (known : AreTypes m ns) where
    pub class_is : place ≡ length m.protos + i → IsUse m cs (map proto_use m.protos ++ map (interfaces_use m) (take i cs)) (map (interfaces_use m) (drop (i + 1) cs)) ns (slice_index offs place)
    class_is e =
        let ps = map proto_use m.protos in
        let before = map (interfaces_use m) (take i cs) in
        record {
          all = ap (λ xs. (ps ++ before) ++ unless_empty (map (type_at m) xs) ∷ map (interfaces_use m) (drop (i + 1) cs)) means
              ∙ append_assoc ps before (interfaces_use m c ∷ map (interfaces_use m) (drop (i + 1) cs))
              ∙ ap (λ us. ps ++ us) (split_uses (interfaces_use m) cs i c lt is) ∙ list_uses_are m cs;
          at = (let at : place ≡ length (ps ++ before) = omega (arith, e, length-append ps before, length-map m.protos proto_use, length-map (take i cs) (interfaces_use m), length-take i cs, lt) in λ k. slice_index (are k) (at k));
          known = known;
        }

    pub class_next : (map proto_use m.protos ++ map (interfaces_use m) (take i cs)) ++ unless_empty (map (type_at m) ns) ∷ [] ≡ map proto_use m.protos ++ map (interfaces_use m) (take (i + 1) cs)
    class_next = ap (λ xs. (map proto_use m.protos ++ map (interfaces_use m) (take i cs)) ++ unless_empty (map (type_at m) xs) ∷ []) means ∙ uses_next (interfaces_use m) (map proto_use m.protos) cs i c lt is
