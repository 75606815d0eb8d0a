-- The numbers of names order as the names.
use Rattle.dexclass.proofs.Common.{◌≡◌, ℕ, ◌<◌, List, [], length, map, sym, ap, ◌∙◌, arith, inl, inr, ◌↔◌, cases_order, length-map, text_cmp, rises, Mentions, Rises-from_rises, Rises-places, irreflexive, asymmetric, text_total, AreNamesOf, true, type_at}
use Rattle.std.specs.declared.cmp.Ordering.TheVariants.{Less}
use Rattle.dexclass.specs.{NumberedClass, definition_of, name_number, AreNamed}
use Rattle.dexclass.proofs.Classed.{name_is}
use Rattle.dexclass.proofs.Places.{name_at as number_is}

-- types order as their numbers
pub less_type : (m : Mentions) → rises text_cmp m.types ≡ true → (i j : ℕ) → i < length m.types → j < length m.types → (i < j) ↔ (text_cmp (type_at m i) (type_at m j) ≡ Less)
less_type m rising i j li lj = (
  λ less. Rises-places text_cmp text_total m.types i j [] (Rises-from_rises text_cmp text_total m.types rising) less lj,
  λ e. elim (cases_order i j) [
    | inl same ↦ absurd (irreflexive text_cmp text_total (type_at m i) (type_at m j) (ap (type_at m) same) e)
    | inr (inl less) ↦ less
    | inr (inr more) ↦ absurd (asymmetric text_cmp text_total (type_at m i) (type_at m j) e (Rises-places text_cmp text_total m.types j i [] (Rises-from_rises text_cmp text_total m.types rising) more li))
  ],
)

module _ (m : Mentions) (cs : List NumberedClass) (named : AreNamed m cs) where
  abbrev numbers : List ℕ
  numbers = map (λ c. c.name) cs

  pub names_of : AreNamesOf (map (definition_of m) cs) numbers
  names_of = record {
    count = length-map cs (λ (c : NumberedClass). c.name) ∙ sym (length-map cs (definition_of m));
    order = λ i j li lj.
        let ci : i < length cs = omega (arith, li, length-map cs (definition_of m)) in
        let cj : j < length cs = omega (arith, lj, length-map cs (definition_of m)) in
        let both = less_type m named.rising (name_number cs i) (name_number cs j) (named.names i ci) (named.names j cj) in
        let ni = number_is cs i ci in
        let nj = number_is cs j cj in
        let ti = name_is m cs named i ci in
        let tj = name_is m cs named j cj in (
          λ less. (λ k. text_cmp (ti k) (tj k)) ∙ both.0 (omega (arith, less, ni, nj)),
          λ e. let l = both.1 ((λ k. text_cmp (sym ti k) (sym tj k)) ∙ e) in omega (arith, l, ni, nj),
        );
  }
