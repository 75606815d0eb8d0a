-- Tries and the list of the handlers that they name.
use Rattle.dexcode.proofs.Common.{◌≡◌, ℕ, ◌+◌, ◌<◌, arith, drop, drop-drop, drop-set-lt, get_or-drop, set, Bool, List, [], ◌∷◌, ◌++◌, length, map, get_or, All, Option, None, refl, ap, sym, ◌∙◌, subst, inl, inr, take, if◌then◌else◌, unwrap_or, Contains, cases_eq, length-append, get_or_append_left, map-append, map_more, Contains-get_or, All-nil, All-head, All-tail, All-push, All-weaker, insert_key, distinct, insert_grows, distinct_more, Try, NumberedHandler, NumberedTry, IsFormedHandler, no_handler, named, all_named, handlers_of, same_handler, handler_decides, handler_equiv, HandlerAt, AreKnown, IsHandlerAt, IsPutAt}
use Rattle.std.proofs.lemmas.Map.Views.{list_any-from_Contains}
use Rattle.dexcode.proofs.Listed.{no_number}
use Rattle.dexcode.proofs.HandlersRead.{one_handler}

-- a handler that is there is not added
pub insert_there : (hs : List NumberedHandler) (h d : NumberedHandler) (k : ℕ) → k < length hs → get_or hs k d ≡ h → insert_key same_handler hs h ≡ hs
insert_there hs h d k lt e = ap (λ b. if b then hs else hs ++ h ∷ []) (list_any-from_Contains handler_equiv h hs (subst (Contains hs) e (Contains-get_or hs k d lt)))

-- a handler that is after those known is known too
pub known_more : (starts : List Bool) (types : ℕ) (b : List ℕ) (list : ℕ) (h : NumberedHandler) {off : ℕ} → IsHandlerAt starts types b (list + off) h → (hs hs' more : List NumberedHandler) (numbers numbers' : List (Option ℕ)) (number : ℕ) → AreKnown starts types b list hs numbers → hs' ≡ hs ++ more
    → IsPutAt off number numbers numbers' → number < length hs' → get_or hs' number no_handler ≡ h → AreKnown starts types b list hs' numbers'
known_more starts types b list h {off} there hs hs' more numbers numbers' number known grown put lt is = record {
  each = λ p k e. elim (cases_eq p off) [
    | inl here ↦
        let same : number ≡ k = ap (λ o. unwrap_or o 0) (sym put.here ∙ ap (λ (q : ℕ). get_or numbers' q None) (sym here) ∙ e) in
        let one : (g : NumberedHandler) → IsHandlerAt starts types b (list + p) g → h ≡ g = λ g at. (one_handler starts types b (list + off) h g there.size at.size there.encodes (subst (λ (q : ℕ). HandlerAt starts types b (list + q) g at.size) here at.encodes)).0 in
        (subst (λ (q : ℕ). q < length hs') same lt, λ g at. subst (λ (q : ℕ). get_or hs' q no_handler ≡ h) same is ∙ one g at)
    | inr other ↦ let old = known.each p k (sym (put.others p other) ∙ e) in (omega (arith, old.0, ap length grown, length-append hs more), λ g at. ap (λ gs. get_or gs k no_handler) grown ∙ get_or_append_left hs more no_handler k old.0 ∙ old.1 g at)
  ];
}

-- more handlers change no name
pub named_grown : (hs more : List NumberedHandler) (ts : List Try) → All (λ t. t.handler < length hs) ts → all_named (hs ++ more) ts ≡ all_named hs ts
named_grown hs more [] all = refl
named_grown hs more (t ∷ ts) all =
    λ i. (ap (λ (h : NumberedHandler). record { start_addr = t.start_addr; insn_count = t.insn_count; handler = h }) (get_or_append_left hs more no_handler t.handler (All-head (λ (x : Try). x.handler < length hs) t ts all))) i ∷ named_grown hs more ts (All-tail (λ (x : Try). x.handler < length hs) t ts all) i

-- nor is one of them lost
pub within_grown : (hs more : List NumberedHandler) (ts : List Try) → All (λ t. t.handler < length hs) ts → All (λ t. t.handler < length (hs ++ more)) ts
within_grown hs more ts all = All-weaker (λ (t : Try). t.handler < length hs) (λ (t : Try). t.handler < length (hs ++ more)) (λ t lt. omega (arith, lt, length-append hs more)) ts all

-- the handler of the next try is one more that is named
next_used : (listed : List NumberedHandler) (tries : List Try) (i : ℕ) (d : Try) → i < length tries → insert_key same_handler (handlers_of (all_named listed (take i tries))) (get_or listed (get_or tries i d).handler no_handler) ≡ handlers_of (all_named listed (take (i + 1) tries))
next_used listed tries i d lt =
    let before = all_named listed (take i tries) in
    let next = named listed (get_or tries i d) in
    let handler : NumberedTry → NumberedHandler = λ t. t.handler in
    sym (distinct_more same_handler handler_decides (map handler before) next.handler) ∙ ap (distinct same_handler) (sym (map-append handler before (next ∷ [])))
    ∙ ap handlers_of (sym (map_more (named listed) tries i d lt))

-- one more try has the number of its handler
pub names_more : (listed hs hs' : List NumberedHandler) (tries numbered numbered' : List Try) (i k : ℕ) (d : Try) → i < length tries → hs' ≡ insert_key same_handler hs (get_or listed (get_or tries i d).handler no_handler)
    → k < length hs' → get_or hs' k no_handler ≡ get_or listed (get_or tries i d).handler no_handler
    → hs ≡ handlers_of (all_named listed (take i tries)) → all_named hs numbered ≡ all_named listed (take i tries) → All (λ t. t.handler < length hs) numbered
    → numbered' ≡ numbered ++ record { start_addr = (get_or tries i d).start_addr; insn_count = (get_or tries i d).insn_count; handler = k } ∷ []
    → (hs' ≡ handlers_of (all_named listed (take (i + 1) tries))) × (all_named hs' numbered' ≡ all_named listed (take (i + 1) tries)) × All (λ t. t.handler < length hs') numbered'
names_more listed hs hs' tries numbered numbered' i k d lt inserted within is used names all pushed =
    let t = get_or tries i d in
    let new : Try = record { start_addr = t.start_addr; insn_count = t.insn_count; handler = k } in
    let grows = insert_grows same_handler hs (get_or listed t.handler no_handler) in
    let grown : hs' ≡ hs ++ grows.0 = inserted ∙ grows.1 in
    let old : all_named hs' numbered ≡ all_named listed (take i tries) = ap (λ gs. all_named gs numbered) grown ∙ named_grown hs grows.0 numbered all ∙ names in
    let kept : All (λ x. x.handler < length hs') numbered = subst (λ gs. All (λ x. x.handler < length gs) numbered) (sym grown) (within_grown hs grows.0 numbered all) in (
      inserted ∙ ap (λ gs. insert_key same_handler gs (get_or listed t.handler no_handler)) used ∙ next_used listed tries i d lt,
      ap (all_named hs') pushed ∙ map-append (named hs') numbered (new ∷ []) ∙ (λ j. old j ++ (ap (λ (h : NumberedHandler). record { start_addr = t.start_addr; insn_count = t.insn_count; handler = h }) is) j ∷ []) ∙ sym (map_more (named listed) tries i d lt),
      subst (All (λ x. x.handler < length hs')) (sym pushed) (All-push (λ (x : Try). x.handler < length hs') numbered new kept within),
    )

-- the first of the tries have the numbers of their handlers
pub record NamedSoFar (starts : List Bool) (types : ℕ) (b : List ℕ) (list : ℕ) (listed hs : List NumberedHandler) (numbers : List (Option ℕ)) (numbered tries : List Try) : Type 0 where
  pub known : AreKnown starts types b list hs numbers
  pub used : hs ≡ handlers_of (all_named listed tries)
  pub names : all_named hs numbered ≡ all_named listed tries
  pub within : All (λ t. t.handler < length hs) numbered
  pub formed : All IsFormedHandler hs

pub none_named : (starts : List Bool) (types : ℕ) (b : List ℕ) (list : ℕ) (listed hs : List NumberedHandler) (numbers : List (Option ℕ)) (numbered tries : List Try) → hs ≡ [] → numbers ≡ [] → numbered ≡ [] → tries ≡ [] → NamedSoFar starts types b list listed hs numbers numbered tries
none_named starts types b list listed hs numbers numbered tries e n m t = record {
  known = record { each = λ off k some. absurd (no_number k (sym (ap (λ (xs : List (Option ℕ)). get_or xs off None) n) ∙ some)) };
  used = e ∙ sym (ap (λ ts. handlers_of (all_named listed ts)) t);
  names = (λ i. all_named (e i) (m i)) ∙ sym (ap (all_named listed) t);
  within = subst (All (λ x. x.handler < length hs)) (sym m) (All-nil (λ (x : Try). x.handler < length hs));
  formed = subst (All IsFormedHandler) (sym e) (All-nil IsFormedHandler);
}

-- a try that has not got its number yet is as it was
pub next_try : (new old : List Try) (i : ℕ) (d : Try) → drop i new ≡ drop i old → get_or new i d ≡ get_or old i d
next_try new old i d e =
    let z : i + 0 ≡ i = omega arith in
    ap (λ (k : ℕ). get_or new k d) (sym z) ∙ sym (get_or-drop i new 0 d) ∙ ap (λ ts. get_or ts 0 d) e ∙ get_or-drop i old 0 d ∙ ap (λ (k : ℕ). get_or old k d) z

-- and so are those after it
pub tries_after : (new old : List Try) (i : ℕ) (t : Try) → drop i new ≡ drop i old → drop (i + 1) (set new i t) ≡ drop (i + 1) old
tries_after new old i t e = let more : i < i + 1 = omega arith in drop-set-lt (i + 1) new i t more ∙ sym (drop-drop 1 i new) ∙ ap (drop 1) e ∙ drop-drop 1 i old
