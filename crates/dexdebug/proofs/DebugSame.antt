-- Debug programs that are the same once remapped by two maps.
use Rattle.std.proofs.lemmas.Simd.{map-map}
use Rattle.std.specs.Bool.{Decides}
use Rattle.std.specs.Cmp.{first_so, second_so}
use Rattle.dexdebug.proofs.Common.{◌≡◌, ◌==◌, ◌&&◌, ◌↔◌, Bool, ℕ, ◌<◌, List, length, map, get_or, Option, option_eq, both, option_decides, refl, ap, sym, ◌∙◌, get_or-map, Maps, Operation, AdvancePc, image_or_none, name_of, type_of, signature_of, with_numbers, renumbered_operation, unindexed_of}
use Rattle.dexdebug.specs.internal.Same.{image_key}
use Rattle.dexpool.specs.declared.symbols.SymbolKind.TheVariants as kinds

-- ---- lists that are the same, mapped

pub same_at : {X Y : Type 0} (f g : X → Y) (xs ys : List X) (i : ℕ) (d : X) → i < length xs → i < length ys → map f xs ≡ map g ys → f (get_or xs i d) ≡ g (get_or ys i d)
same_at f g xs ys i d lt lt' e = sym (get_or-map f xs i d (f d) lt) ∙ ap (λ zs. get_or zs i (f d)) e ∙ get_or-map g ys i d (f d) lt'

-- ---- operations

-- other numbers are not seen without numbers
pub unindexed_with : (op : Operation) (s t u : Option ℕ) → unindexed_of (with_numbers op s t u) ≡ unindexed_of op
unindexed_with (AdvancePc addresses) s t u = refl
unindexed_with _ s t u = refl

-- numbers are put in where there were others
pub with_unindexed : (op : Operation) (s t u : Option ℕ) → with_numbers (unindexed_of op) s t u ≡ with_numbers op s t u
with_unindexed (AdvancePc addresses) s t u = refl
with_unindexed _ s t u = refl

-- ---- what is compared of them

abbrev Key : Type 0
Key = Operation × Option ℕ × Option ℕ × Option ℕ

abbrev parts : Operation → Key
parts op = (unindexed_of op, name_of op, type_of op, signature_of op)

abbrev rebuilt : Key → Operation
rebuilt k = with_numbers k.0 k.1 k.2 k.3

key_parts : (r : Maps) (op : Operation) → parts (renumbered_operation r op) ≡ image_key r op
key_parts r (AdvancePc addresses) = refl
key_parts r _ = refl

key_rebuilt : (r : Maps) (op : Operation) → rebuilt (image_key r op) ≡ renumbered_operation r op
key_rebuilt r op = with_unindexed op (image_or_none r kinds.Text (name_of op)) (image_or_none r kinds.Typ (type_of op)) (image_or_none r kinds.Text (signature_of op))

keys_parts : (r : Maps) (ops : List Operation) → map parts (map (renumbered_operation r) ops) ≡ map (image_key r) ops
keys_parts r ops = map-map parts (renumbered_operation r) ops ∙ (λ i. map (λ op. key_parts r op i) ops)

keys_rebuilt : (r : Maps) (ops : List Operation) → map rebuilt (map (image_key r) ops) ≡ map (renumbered_operation r) ops
keys_rebuilt r ops = map-map rebuilt (image_key r) ops ∙ (λ i. map (λ op. key_rebuilt r op i) ops)

-- two lists of operations are the same once remapped just where these parts are
pub same_keys : (r q : Maps) (xs ys : List Operation) → (map (image_key r) xs ≡ map (image_key q) ys) ↔ (map (renumbered_operation r) xs ≡ map (renumbered_operation q) ys)
same_keys r q xs ys = (
  λ e. sym (keys_rebuilt r xs) ∙ ap (map rebuilt) e ∙ keys_rebuilt q ys,
  λ e. sym (keys_parts r xs) ∙ ap (map parts) e ∙ keys_parts q ys,
)

-- two such lists of parts are compared part by part
pub key_decides : {eq : Operation → Operation → Bool} → ((x y : Operation) → Decides (eq x y) (x ≡ y)) → (k l : Key)
    → Decides (((eq k.0 l.0 && option_eq ◌==◌ k.1 l.1) && option_eq ◌==◌ k.2 l.2) && option_eq ◌==◌ k.3 l.3) (k ≡ l)
key_decides {eq = eq} decides k l =
    let a = eq k.0 l.0 in
    let b = option_eq ◌==◌ k.1 l.1 in
    let c = option_eq ◌==◌ k.2 l.2 in
    let d = option_eq ◌==◌ k.3 l.3 in (
      λ t. let abc = first_so ((a && b) && c) d t in
          let ab = first_so (a && b) c abc in
          λ i. (((decides k.0 l.0).0 (first_so a b ab)) i, ((option_decides k.1 l.1).0 (second_so a b ab)) i, ((option_decides k.2 l.2).0 (second_so (a && b) c abc)) i, ((option_decides k.3 l.3).0 (second_so ((a && b) && c) d t)) i),
      λ e. both ((a && b) && c) d (both (a && b) c (both a b ((decides k.0 l.0).1 (ap (λ x. x.0) e)) ((option_decides k.1 l.1).1 (ap (λ x. x.1) e))) ((option_decides k.2 l.2).1 (ap (λ x. x.2) e))) ((option_decides k.3 l.3).1 (ap (λ x. x.3) e)),
    )
