-- Handlers one after the other, and their numbers by the bytes of their list.
use Rattle.dexcode.proofs.Common.{◌≡◌, ◌≢◌, ℕ, zero, suc, ◌+◌, ◌-◌, ◌<◌, ◌≤◌, ◌^◌, Bool, List, [], ◌∷◌, ◌++◌, length, take, get_or, Option, Some, None, refl, ap, sym, subst, ◌∙◌, inl, inr, arith, ℤ, unwrap_or, cases_eq, cases_lt, length-append, get_or_past, take-append-le, take_all, Sequence, Sleb128At, one_sequence, one_after, NumberedHandler, HandlerAt, BeginsAt, AreNumbered, IsNumberPut, HasHandler}
use Rattle.dexcode.specs.{HandlersRead}
use Rattle.dexcode.proofs.HandlersRead.{one_handler}

-- a number with a sign takes a byte or more
pub sleb_some : (b : List ℕ) (o : ℕ) (v : ℤ) (n : ℕ) → Sleb128At b o v n → 0 < n
sleb_some b o v zero h = absurd h.spelled.chain
sleb_some b o v (suc n) h = omega arith

-- where nothing is, no number is
pub no_number : (i : ℕ) → None ≡ Some i → ⊥
no_number i e = cc

module _ (starts : List Bool) (types : ℕ) where
  -- a handler takes a byte or more
  pub handler_some : (b : List ℕ) (o : ℕ) (h : NumberedHandler) (n : ℕ) → HandlerAt starts types b o h n → 0 < n
  handler_some b o h n at = omega (arith, at.size, sleb_some b o at.count at.count_size at.count_is)

  -- with one more after them, each begins where it did
  begins_more : (b : List ℕ) (first : ℕ) (hs more : List NumberedHandler) (i before : ℕ) → BeginsAt starts types b first hs i before → BeginsAt starts types b first (hs ++ more) i before
  begins_more b first hs more i before begins = record {
    within = omega (arith, begins.within, length-append hs more);
    encodes = subst (λ (gs : List NumberedHandler). Sequence (HandlerAt starts types) b first gs before) (sym (take-append-le i hs more (omega (arith, begins.within)))) begins.encodes;
  }

  begins_less : (b : List ℕ) (first : ℕ) (hs more : List NumberedHandler) (i before : ℕ) → i < length hs → BeginsAt starts types b first (hs ++ more) i before → BeginsAt starts types b first hs i before
  begins_less b first hs more i before lt begins = record { within = lt; encodes = subst (λ (gs : List NumberedHandler). Sequence (HandlerAt starts types) b first gs before) (take-append-le i hs more (omega (arith, lt))) begins.encodes }

  -- those before the next are all of them
  before_next : (hs : List NumberedHandler) (h : NumberedHandler) → take (length hs) (hs ++ h ∷ []) ≡ hs
  before_next hs h = take-append-le (length hs) hs (h ∷ []) (omega arith) ∙ take_all (length hs) hs (omega arith)

  -- with the number of one more put where it begins, they are numbered
  pub numbered_more : (b : List ℕ) (o first n place : ℕ) (hs : List NumberedHandler) (h : NumberedHandler) (numbers numbers' : List (Option ℕ)) → Sequence (HandlerAt starts types) b first hs n → o + place ≡ first + n → length numbers ≤ place
      → AreNumbered starts types b o first hs numbers → IsNumberPut place (length hs) numbers numbers' → AreNumbered starts types b o first (hs ++ h ∷ []) numbers'
  numbered_more b o first n place hs h numbers numbers' are_encoded at short numbered put = record {
    begins = λ k i e. elim (cases_eq k place) [
      | inl here ↦ elim (cases_lt place (2 ^ 16)) [
        | inl near ↦
            let is : Some (length hs) ≡ Some i = sym (put.here near) ∙ ap (λ (p : ℕ). get_or numbers' p None) (sym here) ∙ e in
            let last : length hs ≡ i = ap (λ (x : Option ℕ). unwrap_or x 0) is in (n, subst (λ (j : ℕ). BeginsAt starts types b first (hs ++ h ∷ []) j n) last next, omega (arith, here, at))
        | inr far ↦ absurd (no_number i (sym (get_or_past numbers k None (omega (arith, here, short))) ∙ ap (λ (l : List (Option ℕ)). get_or l k None) (sym (put.far far)) ∙ e))
      ]
      | inr other ↦
          let old = numbered.begins k i (sym (put.others k other) ∙ e) in (old.0, begins_more b first hs (h ∷ []) i old.0 old.1, old.2)
    ];
    known = λ k i before lt begins e. elim (cases_lt i (length hs)) [
      | inl less ↦
          let old : get_or numbers k None ≡ Some i = numbered.known k i before lt (begins_less b first hs (h ∷ []) i before less begins) e in
          let other : k ≢ place = λ here. no_number i (sym (get_or_past numbers k None (omega (arith, here, short))) ∙ old) in put.others k other ∙ old
      | inr ge ↦
          let last : i ≡ length hs = omega (arith, ge, begins.within, length-append hs (h ∷ [])) in
          let same = one_sequence (HandlerAt starts types) (one_handler starts types) b first hs hs before n refl (subst (λ (gs : List NumberedHandler). Sequence (HandlerAt starts types) b first gs before) (ap (λ (j : ℕ). take j (hs ++ h ∷ [])) last ∙ before_next hs h) begins.encodes) are_encoded in
          let here : k ≡ place = omega (arith, at, e, same.1) in ap (λ (p : ℕ). get_or numbers' p None) here ∙ put.here (omega (arith, here, lt)) ∙ ap (λ (j : ℕ). Some j) (sym last)
    ];
  }
    where
      next : BeginsAt starts types b first (hs ++ h ∷ []) (length hs) n
      next = record { within = omega (arith, length-append hs (h ∷ [])); encodes = subst (λ (gs : List NumberedHandler). Sequence (HandlerAt starts types) b first gs n) (sym (before_next hs h)) are_encoded }

  -- one handler more was numbered
  pub one_handler_more : (b : List ℕ) (o first count size n : ℕ) (hs : List NumberedHandler) (numbers numbers' : List (Option ℕ)) → o ≤ first → HandlersRead starts types b o first count hs numbers size → (more : HasHandler starts types b (first + size) n)
      → IsNumberPut (first + size - o) count numbers numbers' → HandlersRead starts types b o first (count + 1) (hs ++ more.handler ∷ []) numbers' (size + n)
  one_handler_more b o first count size n hs numbers numbers' order read more put =
      record {
        are_encoded = one_after (HandlerAt starts types) b first hs more.handler size n read.are_encoded more.encodes;
        many = omega (arith, length-append hs (more.handler ∷ []), read.many);
        within = omega (arith, more.within);
        short = omega (arith, put.short, handler_some b (first + size) more.handler n more.encodes);
        numbered = numbered_more b o first size (first + size - o) hs more.handler numbers numbers' read.are_encoded (omega (arith, order)) (omega (arith, read.short)) read.numbered (subst (λ (k : ℕ). IsNumberPut (first + size - o) k numbers numbers') (sym read.many) put);
      }
