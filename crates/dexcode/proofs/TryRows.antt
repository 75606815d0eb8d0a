-- Tries and handlers with numbers are where those with types are whose rows have these numbers.
use Rattle.dexcode.proofs.Common.{◌≡◌, ℕ, suc, ◌+◌, ◌*◌, ◌<◌, ◌≤◌, Bool, false, List, [], ◌∷◌, ◌++◌, length, map, take, drop, get_or, Option, Some, None, refl, ap, sym, subst, ◌∙◌, arith, ℤ, pos, one_answer, All, All-map, All-head, All-tail, length-map, length-append, map-append, get_or-map, get_or_default, map-map, Sequence, distinct, Uleb128At, Cut, is_instruction_start, Mentions, one_sequence, sum_by-mapped, ArePools, AreRising, Catch, handler_decides, NumberedHandler, NumberedTry, no_handler, catch_meant, handler_meant, try_meant, same_handler, handlers_of, handlers_weight, CatchAt, CatchAllAt, HandlerAt, IsHandler, TryAt, AreApart, TryItemsAt}
use Rattle.dexspec.specs.Code as symbolic
use Rattle.dexspec.specs.Spellings.{type_index}
use Rattle.dexpool.specs.declared.symbols.SymbolKind.TheVariants as kinds
use Rattle.dexpool.proofs.Numbers.{number_ranked}
use Rattle.dexspec.proofs.determined.OneRow.{one_type}
use Rattle.dexspec.proofs.determined.OneCode as one
use Rattle.dexspec.proofs.written.HandlerPlaces.{handler_decides as symbolic_decides}
use Rattle.dexcode.proofs.Images.{seq_map, seq_back, seq_take, seq_all, split_at, distinct_map}

-- ---- weight

pub weight_meant : (m : Mentions) (hs : List NumberedHandler) → symbolic.handlers_weight (map (handler_meant m) hs) ≡ handlers_weight hs
weight_meant m hs =
    ap (λ (n : ℕ). 5 + n) (sum_by-mapped (λ (h : symbolic.Handler). 10 + 8 * length h.catches) (handler_meant m) (λ (h : NumberedHandler). 10 + 8 * length h.catches) hs
    (λ k d lt. ap (λ (n : ℕ). 10 + 8 * n) (length-map (get_or hs k d).catches (catch_meant m))))

-- ---- numbers of types

-- each caught type has a number
abbrev pub IsInRange : Mentions → NumberedHandler → Type 0
IsInRange m h = All (λ c. c.typ < length m.types) h.catches

module _ (m : Mentions) (rising : AreRising m) where
  one_number : (i j : ℕ) → i < length m.types → j < length m.types → get_or m.types i [] ≡ get_or m.types j [] → i ≡ j
  one_number i j li lj e = sym (number_ranked m rising kinds.Typ i li) ∙ ap (type_index m) e ∙ number_ranked m rising kinds.Typ j lj

  one_list : (cs ds : List Catch) → All (λ c. c.typ < length m.types) cs → All (λ c. c.typ < length m.types) ds → map (catch_meant m) cs ≡ map (catch_meant m) ds → cs ≡ ds
  one_list [] [] h g e = refl
  one_list [] (d ∷ ds) h g e = absurd cc
  one_list (c ∷ cs) [] h g e = absurd cc
  one_list (c ∷ cs) (d ∷ ds) h g e =
      let heads : catch_meant m c ≡ catch_meant m d = cc in
      let tails : map (catch_meant m) cs ≡ map (catch_meant m) ds = cc in
      let typ : c.typ ≡ d.typ = one_number c.typ d.typ (All-head (λ (c : Catch). c.typ < length m.types) c cs h) (All-head (λ (c : Catch). c.typ < length m.types) d ds g) (ap (λ x. x.type) heads) in
      λ i. record { typ = typ i; addr = (ap (λ x. x.address) heads) i } ∷ (one_list cs ds (All-tail (λ (c : Catch). c.typ < length m.types) c cs h) (All-tail (λ (c : Catch). c.typ < length m.types) d ds g) tails) i

  one_meaning : (h k : NumberedHandler) → IsInRange m h → IsInRange m k → handler_meant m h ≡ handler_meant m k → h ≡ k
  one_meaning h k p q e = λ i. record { catches = (one_list h.catches k.catches p q (ap (λ x. x.catches) e)) i; catch_all_addr = (ap (λ x. x.catch_all) e) i }

  pub same_meant : (h k : NumberedHandler) → IsInRange m h → IsInRange m k → symbolic.same_handler (handler_meant m h) (handler_meant m k) ≡ same_handler h k
  same_meant h k p q =
      let s = symbolic_decides (handler_meant m h) (handler_meant m k) in
      one_answer (symbolic.same_handler (handler_meant m h) (handler_meant m k)) (same_handler h k) ((λ e. one_meaning h k p q (s.0 e)), (λ e. s.1 (ap (handler_meant m) e))) (handler_decides h k)

  handlers_map : (ts : List NumberedTry) → map (λ (t : symbolic.Try). t.handler) (map (try_meant m) ts) ≡ map (handler_meant m) (map (λ (t : NumberedTry). t.handler) ts)
  handlers_map ts = map-map (λ (t : symbolic.Try). t.handler) (try_meant m) ts ∙ sym (map-map (handler_meant m) (λ (t : NumberedTry). t.handler) ts)

  -- the distinct handlers are those of the tries with types
  pub handlers_meant : (ts : List NumberedTry) → All (IsInRange m) (map (λ t. t.handler) ts) → symbolic.handlers_of (map (try_meant m) ts) ≡ map (handler_meant m) (handlers_of ts)
  handlers_meant ts all = ap (distinct symbolic.same_handler) (handlers_map ts) ∙ distinct_map same_handler symbolic.same_handler (handler_meant m) (IsInRange m) same_meant (map (λ t. t.handler) ts) all

-- ---- addresses

apart_meant : (m : Mentions) (ts : List NumberedTry) → AreApart ts → symbolic.AreApart (map (try_meant m) ts)
apart_meant m (t ∷ u ∷ ts) h = (h.0, apart_meant m (u ∷ ts) h.1)
apart_meant m _ h = tt

apart_back : (m : Mentions) (ts : List NumberedTry) → symbolic.AreApart (map (try_meant m) ts) → AreApart ts
apart_back m (t ∷ u ∷ ts) h = (h.0, apart_back m (u ∷ ts) h.1)
apart_back m _ h = tt

-- ---- what is in the file

module _ (b : List ℕ) (m : Mentions) (pools : ArePools b m) (rising : AreRising m) (us : List ℕ) (cuts : List Cut) (starts : List Bool) (report : (k : ℕ) → get_or starts k false ≡ is_instruction_start us cuts (pos k)) where
  catch_found : (o : ℕ) (c : Catch) (n : ℕ) → CatchAt starts (length m.types) b o c n → symbolic.CatchAt us cuts b o (catch_meant m c) n
  catch_found o c n h = record {
    index = c.typ;
    index_size = h.index_size;
    address_size = h.address_size;
    index_is = h.index_is;
    type = pools.types_are.each c.typ [] (omega (arith, h.in_range, pools.types_are.count));
    address = h.address_is;
    start = sym (report c.addr) ∙ h.start;
    size = h.size;
  }

  catch_back : (o : ℕ) (x : symbolic.Catch) (n : ℕ) → symbolic.CatchAt us cuts b o x n → (c : Catch) × CatchAt starts (length m.types) b o c n × (catch_meant m c ≡ x)
  catch_back o x n h =
      let type : get_or m.types h.index [] ≡ x.type = one_type b h.index (get_or m.types h.index []) x.type (pools.types_are.each h.index [] h.type.row) h.type in (
        record { typ = h.index; addr = x.address },
        record { index_size = h.index_size; address_size = h.address_size; index_is = h.index_is; in_range = omega (arith, h.type.row, pools.types_are.count); address_is = h.address; start = report x.address ∙ h.start; size = h.size },
        λ i. record { type = type i; address = x.address },
      )

  all_found : (size : ℤ) (o : ℕ) (a : Option ℕ) (n : ℕ) → CatchAllAt starts size b o a n → symbolic.CatchAllAt us cuts size b o a n
  all_found size o None n h = h
  all_found size o (Some a) n h = (h.0, h.1, sym (report a) ∙ h.2)

  all_back : (size : ℤ) (o : ℕ) (a : Option ℕ) (n : ℕ) → symbolic.CatchAllAt us cuts size b o a n → CatchAllAt starts size b o a n
  all_back size o None n h = h
  all_back size o (Some a) n h = (h.0, h.1, report a ∙ h.2)

  handler_found : (o : ℕ) (h : NumberedHandler) (n : ℕ) → HandlerAt starts (length m.types) b o h n → symbolic.HandlerAt us cuts b o (handler_meant m h) n
  handler_found o h n g = record {
    count = g.count;
    count_size = g.count_size;
    catches_size = g.catches_size;
    all_size = g.all_size;
    count_is = g.count_is;
    many = g.many ∙ sym (length-map h.catches (catch_meant m));
    catches = seq_map (CatchAt starts (length m.types)) (symbolic.CatchAt us cuts) (catch_meant m) b catch_found (o + g.count_size) h.catches g.catches_size g.catches_are;
    all = all_found g.count (o + g.count_size + g.catches_size) h.catch_all_addr g.all_size g.all;
    size = g.size;
  }

  handler_back : (o : ℕ) (x : symbolic.Handler) (n : ℕ) → symbolic.HandlerAt us cuts b o x n → (h : NumberedHandler) × HandlerAt starts (length m.types) b o h n × (handler_meant m h ≡ x)
  handler_back o x n g =
      let cs = seq_back (CatchAt starts (length m.types)) (symbolic.CatchAt us cuts) (catch_meant m) b catch_back (o + g.count_size) x.catches g.catches_size g.catches in
      let many : length x.catches ≡ length cs.0 = sym (ap length cs.2) ∙ length-map cs.0 (catch_meant m) in (
        record { catches = cs.0; catch_all_addr = x.catch_all },
        record {
          count = g.count;
          count_size = g.count_size;
          catches_size = g.catches_size;
          all_size = g.all_size;
          count_is = g.count_is;
          many = g.many ∙ many;
          catches_are = cs.1;
          all = all_back g.count (o + g.count_size + g.catches_size) x.catch_all g.all_size g.all;
          size = g.size;
        },
        λ i. record { catches = cs.2 i; catch_all = x.catch_all },
      )

  place_found : (o size : ℕ) (hs : List NumberedHandler) (off : ℕ) (h : NumberedHandler) → IsHandler starts (length m.types) b o size hs off h → symbolic.IsHandler us cuts b o size (map (handler_meant m) hs) off (handler_meant m h)
  place_found o size hs off h g =
      record {
        before = map (handler_meant m) (take g.index hs);
        after = map (handler_meant m) (drop (suc g.index) hs);
        before_size = g.before;
        parts = ap (map (handler_meant m)) (split_at hs g.index no_handler g.begins.within ∙ ap (λ k. take g.index hs ++ k ∷ drop (suc g.index) hs) (g.is no_handler)) ∙ map-append (handler_meant m) (take g.index hs) (h ∷ drop (suc g.index) hs);
        encodes = seq_map (HandlerAt starts (length m.types)) (symbolic.HandlerAt us cuts) (handler_meant m) b handler_found (o + size) (take g.index hs) g.before g.begins.encodes;
        place = g.place;
      }

  place_back : (o size total : ℕ) (hs : List NumberedHandler) (off : ℕ) (x : symbolic.Handler) → Sequence (HandlerAt starts (length m.types)) b (o + size) hs total → symbolic.IsHandler us cuts b o size (map (handler_meant m) hs) off x
      → (h : NumberedHandler) × IsHandler starts (length m.types) b o size hs off h × (handler_meant m h ≡ x)
  place_back o size total hs off x list g =
      let f = handler_meant m in
      let i = length g.before in
      let lt : i < length hs = omega (arith, sym (length-map hs f) ∙ ap length g.parts ∙ length-append g.before (x ∷ g.after)) in
      let some = seq_take (HandlerAt starts (length m.types)) b (o + size) hs total i list in
      let found = seq_map (HandlerAt starts (length m.types)) (symbolic.HandlerAt us cuts) f b handler_found (o + size) (take i hs) some.0 some.1 in
      let same = one_sequence (symbolic.HandlerAt us cuts) (one.one_handler us cuts) b (o + size) (map f (take i hs)) g.before some.0 g.before_size (ap length (prefix_map f hs g.before (x ∷ g.after) g.parts)) found g.encodes in
      let is : f (get_or hs i no_handler) ≡ x = sym (get_or-map f hs i no_handler x lt) ∙ ap (λ ys. get_or ys i x) g.parts ∙ at_seam g.before x g.after in (
        get_or hs i no_handler,
        record { index = i; before = some.0; begins = record { within = lt; encodes = some.1 }; place = omega (arith, g.place, same.1); is = λ d. get_or_default hs i d no_handler lt },
        is,
      )
    where
      prefix_map : {X Y : Type 0} (f : X → Y) (xs : List X) (ys zs : List Y) → map f xs ≡ ys ++ zs → map f (take (length ys) xs) ≡ ys
      prefix_map f xs [] zs e = refl
      prefix_map f [] (y ∷ ys) zs e = absurd cc
      prefix_map f (x ∷ xs) (y ∷ ys) zs e = let head : f x ≡ y = cc in let tail : map f xs ≡ ys ++ zs = cc in λ i. head i ∷ prefix_map f xs ys zs tail i

      at_seam : {X : Type 0} (xs : List X) (x : X) (ys : List X) → get_or (xs ++ x ∷ ys) (length xs) x ≡ x
      at_seam [] x ys = refl
      at_seam (y ∷ xs) x ys = at_seam xs x ys

  try_found : (list size : ℕ) (hs : List NumberedHandler) (o : ℕ) (t : NumberedTry) (n : ℕ) → TryAt starts (length m.types) (length us) list size hs b o t n → symbolic.TryAt us cuts list size (map (handler_meant m) hs) b o (try_meant m t) n
  try_found list size hs o t n h = record { start = h.start_is; count = h.count_is; some = h.some; within = h.within; handler = place_found list size hs _ t.handler h.handler_is; size = h.size }

  try_back : (list size total : ℕ) (hs : List NumberedHandler) → Sequence (HandlerAt starts (length m.types)) b (list + size) hs total → (o : ℕ) (x : symbolic.Try) (n : ℕ) → symbolic.TryAt us cuts list size (map (handler_meant m) hs) b o x n
      → (t : NumberedTry) × TryAt starts (length m.types) (length us) list size hs b o t n × (try_meant m t ≡ x)
  try_back list size total hs are_encoded o x n h =
      let at = place_back list size total hs _ x.handler are_encoded h.handler in (
        record { start_addr = x.start; insn_count = x.count; handler = at.0 },
        record { start_is = h.start; count_is = h.count; some = h.some; within = h.within; handler_is = at.1; size = h.size },
        λ i. record { start = x.start; count = x.count; handler = at.2 i },
      )

  -- ---- in range

  handler_in_range : (o : ℕ) (h : NumberedHandler) (n : ℕ) → HandlerAt starts (length m.types) b o h n → IsInRange m h
  handler_in_range o h n g = seq_all (CatchAt starts (length m.types)) (λ c. c.typ < length m.types) b (λ o c n at. at.in_range) (o + g.count_size) h.catches g.catches_size g.catches_are

  try_in_range : (list size : ℕ) (hs : List NumberedHandler) → All (IsInRange m) hs → (o : ℕ) (t : NumberedTry) (n : ℕ) → TryAt starts (length m.types) (length us) list size hs b o t n → IsInRange m t.handler
  try_in_range list size hs all o t n h = subst (IsInRange m) (h.handler_is.is no_handler) (all h.handler_is.index no_handler h.handler_is.begins.within)

  pub items_in_range : (list size total o n : ℕ) (hs : List NumberedHandler) (ts : List NumberedTry) → Sequence (HandlerAt starts (length m.types)) b (list + size) hs total → Sequence (TryAt starts (length m.types) (length us) list size hs) b o ts n → All (IsInRange m) (map (λ t. t.handler) ts)
  items_in_range list size total o n hs ts are_encoded items =
      All-map (IsInRange m) (λ (t : NumberedTry). t.handler) ts (seq_all (TryAt starts (length m.types) (length us) list size hs) (λ t. IsInRange m t.handler) b (try_in_range list size hs (seq_all (HandlerAt starts (length m.types)) (IsInRange m) b handler_in_range (list + size) hs total are_encoded)) o ts n items)

  same_weight : (ts : List NumberedTry) → All (IsInRange m) (map (λ t. t.handler) ts) → symbolic.handlers_weight (symbolic.handlers_of (map (try_meant m) ts)) ≡ handlers_weight (handlers_of ts)
  same_weight ts all = ap symbolic.handlers_weight (handlers_meant m rising ts all) ∙ weight_meant m (handlers_of ts)

  -- ---- the whole

  pub items_found : (o count : ℕ) (ts : List NumberedTry) → TryItemsAt starts (length m.types) (length us) b o count ts → symbolic.TryItemsAt us cuts b o count (map (try_meant m) ts)
  items_found o count ts h =
      let list = o + 8 * count in
      record {
        many = length-map ts (try_meant m) ∙ h.many;
        handlers = map (handler_meant m) h.handlers;
        count_size = h.count_size;
        handlers_size = h.handlers_size;
        list_count = rw (length-map h.handlers (handler_meant m)) h.list_count;
        list = seq_map (HandlerAt starts (length m.types)) (symbolic.HandlerAt us cuts) (handler_meant m) b handler_found (list + h.count_size) h.handlers h.handlers_size h.list;
        items = seq_map (TryAt starts (length m.types) (length us) list h.count_size h.handlers) (symbolic.TryAt us cuts list h.count_size (map (handler_meant m) h.handlers)) (try_meant m) b (try_found list h.count_size h.handlers) o ts (8 * count) h.items;
        apart = apart_meant m ts h.apart;
        few = omega (arith, h.few, same_weight ts (items_in_range list h.count_size h.handlers_size o (8 * count) h.handlers ts h.list h.items));
      }

  pub items_back : (o count : ℕ) (xs : List symbolic.Try) → symbolic.TryItemsAt us cuts b o count xs → (ts : List NumberedTry) × TryItemsAt starts (length m.types) (length us) b o count ts
  items_back o count xs h =
      let list = o + 8 * count in
      let hs = seq_back (HandlerAt starts (length m.types)) (symbolic.HandlerAt us cuts) (handler_meant m) b handler_back (list + h.count_size) h.handlers h.handlers_size h.list in
      let moved = subst (λ gs. Sequence (symbolic.TryAt us cuts list h.count_size gs) b o xs (8 * count)) (sym hs.2) h.items in
      let ts = seq_back (TryAt starts (length m.types) (length us) list h.count_size hs.0) (symbolic.TryAt us cuts list h.count_size (map (handler_meant m) hs.0)) (try_meant m) b (try_back list h.count_size h.handlers_size hs.0 hs.1) o xs (8 * count) moved in
      let few = subst (λ ys. symbolic.handlers_weight (symbolic.handlers_of ys) ≤ symbolic.most_handlers) (sym ts.2) h.few in (
        ts.0,
        record {
          many = sym (length-map ts.0 (try_meant m)) ∙ ap length ts.2 ∙ h.many;
          handlers = hs.0;
          count_size = h.count_size;
          handlers_size = h.handlers_size;
          list_count = subst (λ (n : ℕ). Uleb128At b list n h.count_size) (sym (ap length hs.2) ∙ length-map hs.0 (handler_meant m)) h.list_count;
          list = hs.1;
          items = ts.1;
          apart = apart_back m ts.0 (subst symbolic.AreApart (sym ts.2) h.apart);
          few = omega (arith, few, same_weight ts.0 (items_in_range list h.count_size h.handlers_size o (8 * count) hs.0 ts.0 hs.1 ts.1));
        },
      )
