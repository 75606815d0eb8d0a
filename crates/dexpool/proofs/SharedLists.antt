-- Parts of lists of parameters that have the numbers of other parts, and their images.
use Rattle.dexpool.proofs.Common.{◌≡◌, ℕ, ◌+◌, ◌-◌, ◌<◌, List, [], ◌∷◌, ◌++◌, length, get_or, map, take, drop, sym, ap, ◌∙◌, subst, arith, slice_index, All, length-map, length-take, length-drop, take-map, drop-map, drop-drop, drop-take, take-take, map_more, map-append, All-weaker, All-push, All-more, Span, ProtoEntry, span_of, HasSpan, numbers_of, moved_proto, Covers, IsPlaceWithin}

-- ---- what covers a part

pub covers_through : (a b c : Span) → Covers a b → Covers b c → Covers a c
covers_through a b c f g lt = let inner = g lt in let outer = f (omega (arith, inner.0, inner.1, lt)) in (omega (arith, outer.0, inner.0), omega (arith, outer.1, inner.1))

-- one row more
pub covers_more : (old new : Span) (ps : List ProtoEntry) (i : ℕ) (d : ProtoEntry) → i < length ps → Covers new old → Covers new (get_or ps i d).parameters → All (λ q. Covers old q.parameters) (take i ps) → All (λ q. Covers new q.parameters) (take (i + 1) ps)
covers_more old new ps i d lt f g h =
    let Old : ProtoEntry → Type 0 = λ q. Covers old q.parameters in
    let New : ProtoEntry → Type 0 = λ q. Covers new q.parameters in All-more New ps i d lt (All-weaker Old New (λ q. covers_through new old q.parameters f) (take i ps) h) g

-- ---- places in a part

pub place_in : (range part place : Span) → Covers range part → part.start < part.end → place.start ≡ part.start - range.start → place.end ≡ part.end - range.start → IsPlaceWithin range part place
place_in range part place covers some start end =
    let c = covers some in
    record {
      within = λ ps r h. record { ordered = omega (arith, c.0, c.1, some, start, end); within = omega (arith, c.0, c.1, some, start, end, r.ordered, r.within, length-take (range.end - range.start) (drop range.start ps), length-drop range.start ps) };
      same = λ ps r h.
          let rest = drop range.start ps in
          let size : range.end - range.start ≡ place.start + (range.end - part.start) = omega (arith, c.0, c.1, some, start) in
          let at : range.start + place.start ≡ part.start = omega (arith, c.0, start) in
          let long : place.end - place.start ≡ part.end - part.start = omega (arith, c.0, c.1, some, start, end) in
          ap (λ n. take (place.end - place.start) (drop place.start (take n rest))) size ∙ ap (take (place.end - place.start)) (drop-take place.start (range.end - part.start) rest)
          ∙ take-take (place.end - place.start) (range.end - part.start) (drop place.start rest) (omega (arith, c.0, c.1, some, start, end)) ∙ ap (λ n. take n (drop place.start rest)) long
          ∙ ap (take (part.end - part.start)) (drop-drop place.start range.start ps ∙ ap (λ n. drop n ps) at);
    }

-- ---- images

pub span_of-map : (f : ℕ → ℕ) (ps : List ℕ) (s : Span) → span_of (map f ps) s ≡ map f (span_of ps s)
span_of-map f ps s = ap (take (s.end - s.start)) (drop-map f s.start ps) ∙ take-map f (s.end - s.start) (drop s.start ps)

module _ (strings types ps moved : List ℕ) (range : Span) (in_range : HasSpan ps range) (images : moved ≡ map (slice_index types) (span_of ps range)) where
  -- one row more, with its place in the range
  module _ (protos rows more : List ProtoEntry) (i : ℕ) (d row : ProtoEntry) (lt : i < length protos) (h : HasSpan ps (get_or protos i d).parameters)
      (shorty : row.shorty ≡ slice_index strings (get_or protos i d).shorty) (back : row.return_type ≡ slice_index types (get_or protos i d).return_type) (place : IsPlaceWithin range (get_or protos i d).parameters row.parameters) (pushed : more ≡ rows ++ row ∷ []) where
    row_span : HasSpan moved row.parameters
    row_span = let w = place.within ps in_range h in record { ordered = w.ordered; within = omega (arith, w.within, ap (λ (l : List ℕ). length l) images, length-map (span_of ps range) (slice_index types)) }

    row_moved : numbers_of moved row ≡ moved_proto strings types ps (get_or protos i d)
    row_moved =
        let own : span_of moved row.parameters ≡ map (slice_index types) (span_of ps (get_or protos i d).parameters) =
        ap (λ (l : List ℕ). span_of l row.parameters) images ∙ span_of-map (slice_index types) (span_of ps range) row.parameters ∙ ap (map (slice_index types)) (place.same ps in_range h) in
        λ i. record { shorty = shorty i; return_type = back i; parameters = own i }

    pub spans_placed : All (λ q. HasSpan moved q.parameters) rows → All (λ q. HasSpan moved q.parameters) more
    spans_placed all = subst (All (λ (q : ProtoEntry). HasSpan moved q.parameters)) (sym pushed) (All-push (λ (q : ProtoEntry). HasSpan moved q.parameters) rows row all row_span)

    pub rows_placed : map (numbers_of moved) rows ≡ map (moved_proto strings types ps) (take i protos) → map (numbers_of moved) more ≡ map (moved_proto strings types ps) (take (i + 1) protos)
    rows_placed all =
        ap (map (numbers_of moved)) pushed ∙ map-append (numbers_of moved) rows (row ∷ []) ∙ (λ k. all k ++ row_moved k ∷ []) ∙ sym (map_more (moved_proto strings types ps) protos i d lt)
