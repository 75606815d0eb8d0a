-- Tries that name handlers by their numbers are the try_items at their offset.
use Rattle.dexcode.proofs.Common.{◌≡◌, ℕ, zero, suc, ◌+◌, ◌*◌, ◌^◌, ◌<◌, ◌≤◌, Bool, List, [], ◌∷◌, length, take, drop, get_or, Option, refl, ap, sym, subst, ◌∙◌, arith, length-drop, length-map, get_or-drop, get_or_default, All, Sequence, number_of, ushort_at, most_handlers, one_uleb128, one_sequence, Try, NumberedHandler, NumberedTry, IsFormedHandler, no_handler, named, all_named, handlers_of, handlers_weight, HandlerAt, IsListAt, TryAt, ListedTryAt, AreApart, AreApartFrom, TriesRead, TryItemsAt, IsHandlerAt, AreListed, NoTries, ◌++◌, unwrap_or, length-append}
use Rattle.dexcode.proofs.Images.{seq_map, seq_back, seq_all}
use Rattle.dexcode.proofs.Listed.{handler_some, sleb_some}
use Rattle.dexcode.proofs.HandlersRead.{one_handler}
use Rattle.dexcode.proofs.Whole.{all_formed}
use Rattle.dexcode.proofs.Prefixes.{same_prefix}

-- ---- Tries that name handlers by their numbers: there is at most one at an offset; they do not overlap

-- one try
pub one_listed_try : (units : ℕ) (numbers : List (Option ℕ)) → (b : List ℕ) (o : ℕ) (t u : Try) (n k : ℕ) → ListedTryAt units numbers b o t n → ListedTryAt units numbers b o u k → (t ≡ u) × (n ≡ k)
one_listed_try units numbers b o t u n k h g = (
  (λ i. record {
    start_addr = (sym h.start_is ∙ g.start_is) i;
    insn_count = (sym h.count_is ∙ g.count_is) i;
    handler = (ap (λ (x : Option ℕ). unwrap_or x 0) (sym h.named ∙ g.named)) i;
  }),
  h.size ∙ sym g.size,
)

-- one more after them
pub apart_more : (from to : ℕ) (ts : List Try) (t : Try) → AreApartFrom from ts to → to ≤ t.start_addr → AreApartFrom from (ts ++ t ∷ []) (t.start_addr + t.insn_count)
apart_more from to [] t h le = (omega (arith, h, le), refl)
apart_more from to (u ∷ ts) t h le = (h.0, apart_more (u.start_addr + u.insn_count) to ts t h.1 le)

-- the next is after them
next_apart : (from to end : ℕ) (ts : List Try) (t : Try) (us : List Try) → AreApartFrom from ts to → AreApartFrom from (ts ++ t ∷ us) end → to ≤ t.start_addr
next_apart from to end [] t us h g = omega (arith, h, g.0)
next_apart from to end (u ∷ ts) t us h g = next_apart (u.start_addr + u.insn_count) to end ts t us h.1 g.1

-- if the next begins before the end of those read, there are no such tries
next_overlaps : (units : ℕ) (numbers : List (Option ℕ)) → (b : List ℕ) (o : ℕ) (ts : List Try) (t : Try) (us : List Try) (n k to end : ℕ) → 0 < length us → ListedTryAt units numbers b (o + n) t 8 → Sequence (ListedTryAt units numbers) b (o + n) us k
    → AreApartFrom 0 ts to → AreApartFrom 0 (ts ++ us) end → t.start_addr < to → ⊥
next_overlaps units numbers b o ts t [] n k to end some at h apart all lt = omega (arith, some)
next_overlaps units numbers b o ts t (u ∷ us) n k to end some at h apart all lt =
    omega (arith, lt, ap (λ x. x.start_addr) (one_listed_try units numbers b (o + n) t u 8 h.0 at h.2).0, next_apart 0 to end ts u us apart all)

pub overlap : (units : ℕ) (numbers : List (Option ℕ)) → (b : List ℕ) (o : ℕ) (ts : List Try) (t : Try) (us : List Try) (n m to end : ℕ) → length ts < length us → Sequence (ListedTryAt units numbers) b o ts n → ListedTryAt units numbers b (o + n) t 8
    → AreApartFrom 0 ts to → t.start_addr < to → Sequence (ListedTryAt units numbers) b o us m → AreApartFrom 0 us end → ⊥
overlap units numbers b o ts t us n m to end lt h at apart less g all =
    let front = same_prefix (ListedTryAt units numbers) (one_listed_try units numbers) b o ts us n m (omega (arith, lt)) h g in
    next_overlaps units numbers b o ts t front.0 n front.1 to end (omega (arith, lt, ap length front.2 ∙ length-append ts front.0)) at front.3 apart (subst (λ (vs : List Try). AreApartFrom 0 vs end) front.2 all) less

-- ---- addresses

-- tries that are apart from an address on are apart
apart_named : (hs : List NumberedHandler) (from to : ℕ) (ts : List Try) → AreApartFrom from ts to → AreApart (all_named hs ts)
apart_named hs from to (t ∷ u ∷ ts) h = (h.1.0, apart_named hs (t.start_addr + t.insn_count) to (u ∷ ts) h.1)
apart_named hs from to _ h = tt

apart_back : (hs : List NumberedHandler) (from : ℕ) (t : Try) (ts : List Try) → from ≤ t.start_addr → AreApart (all_named hs (t ∷ ts)) → (to : ℕ) × AreApartFrom from (t ∷ ts) to
apart_back hs from t [] le h = (t.start_addr + t.insn_count, (le, refl))
apart_back hs from t (u ∷ ts) le h = let rest = apart_back hs (t.start_addr + t.insn_count) u ts h.0 h.1 in (rest.0, (le, rest.1))

apart_from : (hs : List NumberedHandler) (ts : List Try) → AreApart (all_named hs ts) → (to : ℕ) × AreApartFrom 0 ts to
apart_from hs [] h = (0, refl)
apart_from hs (t ∷ ts) h = apart_back hs 0 t ts (omega arith) h

-- ---- offsets

-- two bytes encode a number of 16 bits
two_small : (ys : List ℕ) → ((i : ℕ) → get_or ys i 0 < 256) → number_of (take 2 ys) < 2 ^ 16
unfolding number_of
two_small [] small = omega arith
two_small (x ∷ []) small = omega (arith, small 0)
two_small (x ∷ y ∷ ys) small = omega (arith, small 0, small 1)

ushort_small : (b : List ℕ) (o : ℕ) → ((i : ℕ) → get_or b i 0 < 256) → ushort_at b o < 2 ^ 16
unfolding ushort_at
ushort_small b o small = two_small (drop o b) (λ i. subst (λ (x : ℕ). x < 256) (sym (get_or-drop o b i 0)) (small (o + i)))

-- ---- handlers

module _ (starts : List Bool) (types units : ℕ) (b : List ℕ) (list : ℕ) (hs : List NumberedHandler) (numbers : List (Option ℕ)) (at : IsListAt starts types b list hs numbers) where
  -- each names a handler
  handlers_named : (o : ℕ) (ts : List Try) (n : ℕ) → Sequence (ListedTryAt units numbers) b o ts n → All (λ t. t.handler < length hs) ts
  handlers_named = seq_all (ListedTryAt units numbers) (λ t. t.handler < length hs) b (λ o t n h. (at.numbered.begins (ushort_at b (o + 6)) t.handler h.named).1.within)

  -- the try that names the number of a handler
  try_named : (o : ℕ) (t : Try) (n : ℕ) → ListedTryAt units numbers b o t n → TryAt starts types units list at.count_size hs b o (named hs t) n
  try_named o t n h =
      let begins = at.numbered.begins (ushort_at b (o + 6)) t.handler h.named in
      record {
        start_is = h.start_is;
        count_is = h.count_is;
        some = h.some;
        within = h.within;
        handler_is = record {
          index = t.handler;
          before = begins.0;
          begins = begins.1;
          place = omega (arith, begins.2);
          is = λ d. get_or_default hs t.handler d no_handler begins.1.within;
        };
        size = h.size;
      }

  tries_named : (o : ℕ) (ts : List Try) (n : ℕ) → Sequence (ListedTryAt units numbers) b o ts n → Sequence (TryAt starts types units list at.count_size hs) b o (all_named hs ts) n
  tries_named = seq_map (ListedTryAt units numbers) (TryAt starts types units list at.count_size hs) (named hs) b try_named

  -- and back
  module _ (small : (i : ℕ) → get_or b i 0 < 256) where
    try_listed : (o : ℕ) (s : NumberedTry) (n : ℕ) → TryAt starts types units list at.count_size hs b o s n → (t : Try) × ListedTryAt units numbers b o t n × (named hs t ≡ s)
    try_listed o s n h =
        let is = h.handler_is.is no_handler in (
          record { start_addr = s.start_addr; insn_count = s.insn_count; handler = h.handler_is.index },
          record {
            start_is = h.start_is;
            count_is = h.count_is;
            some = h.some;
            within = h.within;
            named = at.numbered.known (ushort_at b (o + 6)) h.handler_is.index h.handler_is.before (ushort_small b (o + 6) small) h.handler_is.begins (omega (arith, h.handler_is.place));
            size = h.size;
          },
          λ j. record { start_addr = s.start_addr; insn_count = s.insn_count; handler = is j },
        )

    tries_listed : (o : ℕ) (ss : List NumberedTry) (n : ℕ) → Sequence (TryAt starts types units list at.count_size hs) b o ss n → (ts : List Try) × Sequence (ListedTryAt units numbers) b o ts n × (all_named hs ts ≡ ss)
    tries_listed = seq_back (ListedTryAt units numbers) (TryAt starts types units list at.count_size hs) (named hs) b try_listed

-- ---- handlers where try_items say

-- the offsets of successive tries differ by eight bytes
tries_at : (units : ℕ) (numbers : List (Option ℕ)) (b : List ℕ) (o : ℕ) (ts : List Try) (n : ℕ) → Sequence (ListedTryAt units numbers) b o ts n → (j : ℕ) (d : Try) → j < length ts → ListedTryAt units numbers b (o + 8 * j) (get_or ts j d) 8
tries_at units numbers b o [] n h j d lt = absurd (omega (arith, lt))
tries_at units numbers b o (t ∷ ts) n h zero d lt = subst (λ (p : ℕ). ListedTryAt units numbers b p t 8) (omega arith) (subst (ListedTryAt units numbers b o t) h.2.size h.2)
tries_at units numbers b o (t ∷ ts) n h (suc j) d lt =
    let place : o + h.0 + 8 * j ≡ o + 8 * suc j = omega (arith, h.2.size) in
    subst (λ (p : ℕ). ListedTryAt units numbers b p (get_or ts j d) 8) place (tries_at units numbers b (o + h.0) ts h.1 h.3 j d (omega (arith, lt)))

module _ (starts : List Bool) (types : ℕ) (b : List ℕ) where
  -- a handler of a list is where those before it end
  is_at_end : (first : ℕ) (hs : List NumberedHandler) (n : ℕ) → Sequence (HandlerAt starts types) b first hs n → (i before : ℕ) (d : NumberedHandler) → i < length hs → Sequence (HandlerAt starts types) b first (take i hs) before → IsHandlerAt starts types b (first + before) (get_or hs i d)
  is_at_end first [] n h i before d lt g = absurd (omega (arith, lt))
  is_at_end first (x ∷ hs) n h zero before d lt g = record { size = h.0; encodes = subst (λ (p : ℕ). HandlerAt starts types b p x h.0) (omega (arith, g)) h.2 }
  is_at_end first (x ∷ hs) n h (suc i) before d lt g =
      let same = (one_handler starts types b first x x g.0 h.0 g.2 h.2).1 in
      let there = is_at_end (first + h.0) hs h.1 h.3 i g.1 d (omega (arith, lt)) (subst (λ (k : ℕ). Sequence (HandlerAt starts types) b (first + k) (take i hs) g.1) same g.3) in
      subst (λ (p : ℕ). IsHandlerAt starts types b p (get_or hs i d)) (omega (arith, same, g.4)) there

  -- a handler begins within the file
  pub begins_within : (o : ℕ) (h : NumberedHandler) → IsHandlerAt starts types b o h → o ≤ length b
  begins_within o h at = omega (arith, handler_some starts types b o h at.size at.encodes, at.encodes.count_is.within, length-drop o b, sleb_some b o at.encodes.count at.encodes.count_size at.encodes.count_is)

module _ (starts : List Bool) (types units : ℕ) (b : List ℕ) (o count : ℕ) where
  -- what was read is at the offset
  pub found_tries : (hs : List NumberedHandler) (numbers : List (Option ℕ)) (ts : List Try) (to : ℕ) → IsListAt starts types b (o + 8 * count) hs numbers → TriesRead units numbers b o count ts to → handlers_weight (handlers_of (all_named hs ts)) ≤ most_handlers
      → TryItemsAt starts types units b o count (all_named hs ts)
  found_tries hs numbers ts to at read few = record {
    many = length-map ts (named hs) ∙ read.many;
    handlers = hs;
    count_size = at.count_size;
    handlers_size = at.size;
    list_count = at.count_is;
    list = at.are_encoded;
    items = tries_named starts types units b (o + 8 * count) hs numbers at o ts (8 * count) read.are_encoded;
    apart = apart_named hs 0 to ts read.apart;
    few = few;
  }

  -- each names a handler
  found_within : (hs : List NumberedHandler) (numbers : List (Option ℕ)) (ts : List Try) (to : ℕ) → IsListAt starts types b (o + 8 * count) hs numbers → TriesRead units numbers b o count ts to → All (λ t. t.handler < length hs) ts
  found_within hs numbers ts to at read = handlers_named starts types units b (o + 8 * count) hs numbers at o ts (8 * count) read.are_encoded

  -- and each is formed
  found_formed : (hs : List NumberedHandler) (numbers : List (Option ℕ)) → IsListAt starts types b (o + 8 * count) hs numbers → All IsFormedHandler hs
  found_formed hs numbers at = all_formed starts types b (o + 8 * count + at.count_size) hs at.size at.are_encoded

  -- the handlers that tries name are where these say
  pub found_listed : (hs : List NumberedHandler) (numbers : List (Option ℕ)) (ts : List Try) (to : ℕ) → IsListAt starts types b (o + 8 * count) hs numbers → TriesRead units numbers b o count ts to → AreListed starts types b o (o + 8 * count) hs ts
  found_listed hs numbers ts to at read = record {
    each = λ j d lt.
        let t = get_or ts j d in
        let begins = at.numbered.begins (ushort_at b (o + 8 * j + 6)) t.handler (tries_at units numbers b o ts (8 * count) read.are_encoded j d lt).named in
        let place : o + 8 * count + at.count_size + begins.0 ≡ o + 8 * count + ushort_at b (o + 8 * j + 6) = omega (arith, begins.2) in
        subst (λ (p : ℕ). IsHandlerAt starts types b p (get_or hs t.handler no_handler)) place (is_at_end starts types b (o + 8 * count + at.count_size) hs at.size at.are_encoded t.handler begins.0 no_handler begins.1.within begins.1.encodes);
    formed = found_formed hs numbers at;
    within = found_within hs numbers ts to at read;
  }

  -- the tries at the offset name handlers of the list that was read
  back : ((i : ℕ) → get_or b i 0 < 256) → (hs : List NumberedHandler) (numbers : List (Option ℕ)) → IsListAt starts types b (o + 8 * count) hs numbers → (ss : List NumberedTry) → TryItemsAt starts types units b o count ss
      → (ts : List Try) × Sequence (ListedTryAt units numbers) b o ts (8 * count) × (all_named hs ts ≡ ss)
  back small hs numbers at ss h =
      let list = o + 8 * count in
      let many = one_uleb128 b list (length h.handlers) (length hs) h.count_size at.count_size h.list_count at.count_is in
      let same = one_sequence (HandlerAt starts types) (one_handler starts types) b (list + at.count_size) h.handlers hs h.handlers_size at.size many.0
      (subst (λ (i : ℕ). Sequence (HandlerAt starts types) b (list + i) h.handlers h.handlers_size) many.1 h.list) at.are_encoded in
      let moved = subst (λ (i : ℕ). Sequence (TryAt starts types units list i h.handlers) b o ss (8 * count)) many.1 h.items in
      tries_listed starts types units b list hs numbers at small o ss (8 * count) (subst (λ (gs : List NumberedHandler). Sequence (TryAt starts types units list at.count_size gs) b o ss (8 * count)) same.0 moved)

  length-same : (hs : List NumberedHandler) (ts : List Try) (ss : List NumberedTry) → all_named hs ts ≡ ss → length ts ≡ length ss
  length-same hs ts ss e = sym (length-map ts (named hs)) ∙ ap length e

  -- if its tries are missing, or if their handlers weigh too much, there are no try_items
  pub no_tries : ((i : ℕ) → get_or b i 0 < 256) → (hs : List NumberedHandler) (numbers : List (Option ℕ)) → IsListAt starts types b (o + 8 * count) hs numbers
      → NoTries units numbers b o count → (ss : List NumberedTry) → TryItemsAt starts types units b o count ss → ⊥
  no_tries small hs numbers at none ss h =
      let there = back small hs numbers at ss h in let apart = apart_from hs there.0 (subst AreApart (sym there.2) h.apart) in none there.0 (8 * count) apart.0 (length-same hs there.0 ss there.2 ∙ h.many) there.1 apart.1

  pub too_heavy : ((i : ℕ) → get_or b i 0 < 256) → (hs : List NumberedHandler) (numbers : List (Option ℕ)) (ts : List Try) (to : ℕ) → IsListAt starts types b (o + 8 * count) hs numbers → TriesRead units numbers b o count ts to
      → most_handlers < handlers_weight (handlers_of (all_named hs ts)) → (ss : List NumberedTry) → TryItemsAt starts types units b o count ss → ⊥
  too_heavy small hs numbers ts to at read heavy ss h =
      let there = back small hs numbers at ss h in
      omega (arith, heavy, h.few, ap (λ us. handlers_weight (handlers_of us)) (sym there.2 ∙ ap (all_named hs) (one_sequence (ListedTryAt units numbers) (one_listed_try units numbers) b o there.0 ts (8 * count) (8 * count) (length-same hs there.0 ss there.2 ∙ h.many ∙ sym read.many) there.1 read.are_encoded).0))
