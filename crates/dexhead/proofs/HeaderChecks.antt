-- What the header's own functions check, in terms of the conditions.
use Rattle.dexhead.proofs.Common.{◌≡◌, ◌↔◌, ℕ, ◌+◌, ◌<◌, List, ◌∷◌, length, map, take, drop, get_or, IsTrue, subst, sym, drop_more, sha1, TypeIds, ProtoIds, FieldIds, MethodIds, MayHave, table_size, HasSignature, tables, data_off, data_size, file_size, HasLayout, meant, AreFew, IsLaidOut, has_signature}
use Rattle.std.proofs.lemmas.Slice.Eq.{bytes_eq-Decides}
use Rattle.dexspec.specs.Header as header
use Rattle.dexhead.specs.declared.tables.Table.{Table}

-- ---- the signature

pub has_signature-Decides : (b : List ℕ) → IsTrue (has_signature b) ↔ HasSignature b
unfolding has_signature
has_signature-Decides b = bytes_eq-Decides (take 20 (drop 12 b)) (sha1 (drop 32 b))

-- ---- the layout

may_have : {b : List ℕ} → AreFew b → (t : header.Table) → MayHave t (table_size b t)
may_have few TypeIds = few.types
may_have few ProtoIds = few.protos
may_have few FieldIds = few.fields
may_have few MethodIds = few.methods
may_have few _ = tt

pub has_layout : {b : List ℕ} → IsLaidOut b 112 tables → data_off b + data_size b ≡ file_size b → AreFew b → HasLayout b
has_layout laid end few = record { tables = laid.laid; data_end = end; few = may_have few }

pub laid_out : {b : List ℕ} → HasLayout b → IsLaidOut b 112 tables
laid_out h = record { laid = h.tables }

pub few : {b : List ℕ} → HasLayout b → AreFew b
few h = record { types = h.few TypeIds; protos = h.few ProtoIds; fields = h.few FieldIds; methods = h.few MethodIds }

-- a table is well placed: so the rest is, from its end on
pub laid_more : {b : List ℕ} {from next : ℕ} {P : Type 0} (xs : List Table) (i : ℕ) (d : Table) → i < length xs → (P ↔ IsLaidOut b from (map meant (drop i xs))) → ((ts : List header.Table) → IsLaidOut b from (meant (get_or xs i d) ∷ ts) ↔ IsLaidOut b next ts)
    → (P ↔ IsLaidOut b next (map meant (drop (i + 1) xs)))
laid_more {b = b} {from = from} {next = next} xs i d lt p h =
    let q : IsLaidOut b from (map meant (drop i xs)) ↔ IsLaidOut b next (map meant (drop (i + 1) xs))
    = subst (λ (ys : List Table). IsLaidOut b from (map meant ys) ↔ IsLaidOut b next (map meant (drop (i + 1) xs))) (sym (drop_more xs i d lt)) (h (map meant (drop (i + 1) xs))) in
    (λ x. q.0 (p.0 x), λ y. p.1 (q.1 y))

-- a table is not
pub laid_no_more : {b : List ℕ} {from : ℕ} {P : Type 0} (xs : List Table) (i : ℕ) (d : Table) → i < length xs → (P ↔ IsLaidOut b from (map meant (drop i xs))) → ((ts : List header.Table) → IsLaidOut b from (meant (get_or xs i d) ∷ ts) ↔ ⊥) → P → ⊥
laid_no_more {b = b} {from = from} xs i d lt p h x = (h (map meant (drop (i + 1) xs))).0 (subst (λ (ys : List Table). IsLaidOut b from (map meant ys)) (drop_more xs i d lt) (p.0 x))
