-- One entry more in a table of protos.
use Rattle.dexpool.proofs.Common.{◌≡◌, ℕ, ◌-◌, List, [], ◌∷◌, ◌++◌, length, map, take, drop, refl, ap, ◌∙◌, subst, sym, arith, drop_at, All, map-append, length-append, take_all, take-append-le, drop-append-le, length-drop, All-head, All-tail, All-weaker, All-push, Span, ProtoEntry, span_of, HasSpan, numbers_of}

-- ---- the shared list

-- a part stays as it was where the list grows
pub span_grown : (xs ys : List ℕ) (s : Span) → HasSpan xs s → span_of (xs ++ ys) s ≡ span_of xs s
span_grown xs ys s h =
    ap (λ (l : List ℕ). take (s.end - s.start) l) (drop-append-le s.start xs ys (omega (arith, h.ordered, h.within)))
    ∙ take-append-le (s.end - s.start) (drop s.start xs) ys (omega (arith, h.ordered, h.within, length-drop s.start xs))

span_is : (new old l : List ℕ) (s : Span) → new ≡ old ++ l → s.start ≡ length old → s.end ≡ length new → span_of new s ≡ l
span_is new old l s grown start end =
    ap (λ (xs : List ℕ). take (s.end - s.start) xs) (refl ∙ ap (drop s.start) (refl ∙ grown) ∙ ap (λ (n : ℕ). drop n (old ++ l)) start ∙ drop_at old l (length old) refl) ∙ take_all (s.end - s.start) l (omega (arith, start, end, ap (λ (xs : List ℕ). length xs) grown, length-append old l))

-- ---- rows

module _ (old new more : List ℕ) (grown : new ≡ old ++ more) where
  kept_row : (p : ProtoEntry) → HasSpan old p.parameters → numbers_of new p ≡ numbers_of old p
  kept_row p h = λ i. record {
    shorty = p.shorty;
    return_type = p.return_type;
    parameters = (ap (λ (ps : List ℕ). span_of ps p.parameters) grown ∙ span_grown old more p.parameters h) i;
  }

  -- earlier rows stay
  kept_rows : (ps : List ProtoEntry) → All (λ p. HasSpan old p.parameters) ps → map (numbers_of new) ps ≡ map (numbers_of old) ps
  kept_rows [] h = refl
  kept_rows (p ∷ ps) h = λ i. (kept_row p (All-head (λ q. HasSpan old q.parameters) p ps h)) i ∷ (kept_rows ps (All-tail (λ q. HasSpan old q.parameters) p ps h)) i

  module _ (ps qs : List ProtoEntry) (p : ProtoEntry) (spans : All (λ q. HasSpan old q.parameters) ps) (pushed : qs ≡ ps ++ p ∷ []) (start : p.parameters.start ≡ length old) (end : p.parameters.end ≡ length new) where
    pub rows_more : map (numbers_of new) qs ≡ map (numbers_of old) ps ++ record { shorty = p.shorty; return_type = p.return_type; parameters = more } ∷ []
    rows_more =
        let row : numbers_of new p ≡ record { shorty = p.shorty; return_type = p.return_type; parameters = more } = λ i. record {
          shorty = p.shorty;
          return_type = p.return_type;
          parameters = (span_is new old more p.parameters grown start end) i;
        } in
        ap (map (numbers_of new)) pushed ∙ map-append (numbers_of new) ps (p ∷ []) ∙ (λ i. kept_rows ps spans i ++ row i ∷ [])

    pub spans_more : All (λ q. HasSpan new q.parameters) qs
    spans_more =
        let size = length-append old more in
        let same = ap (λ (xs : List ℕ). length xs) grown in
        subst (All (λ q. HasSpan new q.parameters)) (sym pushed)
        (All-push (λ q. HasSpan new q.parameters) ps p
        (All-weaker (λ q. HasSpan old q.parameters) (λ q. HasSpan new q.parameters) (λ q h. record { ordered = h.ordered; within = omega (arith, h.within, size, same) }) ps spans)
        (record { ordered = omega (arith, start, end, size, same); within = omega (arith, end) }))
