-- What the symbols of tables weigh, by the numbers in the tables.
use Rattle.dexpool.proofs.Common.{◌≡◌, ℕ, ◌+◌, ◌-◌, ◌*◌, List, [], ◌∷◌, length, map, drop, refl, ap, ◌∙◌, arith, sum_by, All, length-map, length-take, length-drop, All-head, All-tail, All-weaker, Text, text_weight, proto_weight, mentions_weight, ProtoEntry, Tables, text_of, type_of, span_of, proto_of, field_of, method_of, HasSpan, symbols_in, AreTables, IsProtoEntry}
use Rattle.std.proofs.lemmas.List.Sums.{sum_by-cons}

-- a sum over mapped members
pub sum_by-mapped : {X Y : Type 0} (f : Y → ℕ) (g : X → Y) (h : X → ℕ) (xs : List X) → All (λ x. f (g x) ≡ h x) xs → sum_by f (map g xs) ≡ sum_by h xs
sum_by-mapped f g h [] all = refl
sum_by-mapped f g h (x ∷ xs) all = omega (arith, sum_by-cons f (g x) (map g xs), sum_by-cons h x xs, All-head (λ x. f (g x) ≡ h x) x xs all, sum_by-mapped f g h xs (All-tail (λ x. f (g x) ≡ h x) x xs all))

-- a part of a list is as long as its ends say
pub length-span : (ns : List ℕ) (p : ProtoEntry) → HasSpan ns p.parameters → length (span_of ns p.parameters) ≡ p.parameters.end - p.parameters.start
length-span ns p h = let s = p.parameters.start in omega (arith, length-take (p.parameters.end - s) (drop s ns), length-drop s ns, h.ordered, h.within)

-- a row weighs what its proto does
pub entry_weight : (texts : List Text) (types ns : List ℕ) (p : ProtoEntry) → HasSpan ns p.parameters → proto_weight (proto_of texts types ns p) ≡ 20 + 2 * (p.parameters.end - p.parameters.start)
entry_weight texts types ns p h = ap (λ n. 20 + 2 * n) (length-map (span_of ns p.parameters) (type_of texts types) ∙ length-span ns p h)

-- the weight, table by table
pub tables_weight : (t : Tables) → AreTables t → mentions_weight (symbols_in t)
    ≡ sum_by text_weight t.strings.items + 4 * length t.types.items + sum_by (λ p. 20 + 2 * (p.parameters.end - p.parameters.start)) t.protos.items + 8 * length t.fields.items + 8 * length t.methods.items
tables_weight t h =
    let weighs = λ (p : ProtoEntry). 20 + 2 * (p.parameters.end - p.parameters.start) in
    let are_encoded = proto_of t.strings.items t.types.items t.parameters in
    let protos : sum_by proto_weight (map are_encoded t.protos.items) ≡ sum_by weighs t.protos.items =
    sum_by-mapped proto_weight are_encoded weighs t.protos.items (All-weaker (IsProtoEntry t) (λ p. proto_weight (are_encoded p) ≡ weighs p) (λ p e. entry_weight t.strings.items t.types.items t.parameters p e.span) t.protos.items h.protos_at_ranks) in
    omega (arith, protos, length-map t.types.items (text_of t.strings.items), length-map t.fields.items (field_of t.strings.items t.types.items), length-map t.methods.items (method_of t.strings.items t.types.items t.parameters t.protos.items))
