use Rattle.dexpool.proofs.Common.{Bool, List, length, ◌++◌, ◌∙◌, ap, map, length-replicate, TextSymbol, TypeSymbol, ProtoSymbol, FieldSymbol, MethodSymbol}
use Rattle.dexpool.proofs.KeptRows.{kept_none}
use Rattle.dexpool.proofs.marks.Marks.none.Goals as goal

pub returns-clause-marks : goal.returns-clause-marks
returns-clause-marks c = record {
  strings_count = ap (λ (l : List Bool). length l) (c.in_ok-vec.ensures.items_if_clones_equal (λ y e. e)) ∙ length-replicate c.count.result _ ∙ c.count.ensures;
  types_count = ap (λ (l : List Bool). length l) (c.in_ok-vec-2.ensures.items_if_clones_equal (λ y e. e)) ∙ length-replicate c.count-2.result _ ∙ c.count-2.ensures;
  protos_count = ap (λ (l : List Bool). length l) (c.in_ok-vec-3.ensures.items_if_clones_equal (λ y e. e)) ∙ length-replicate c.count-3.result _ ∙ c.count-3.ensures;
  fields_count = ap (λ (l : List Bool). length l) (c.in_ok-vec-4.ensures.items_if_clones_equal (λ y e. e)) ∙ length-replicate c.count-4.result _ ∙ c.count-4.ensures;
  methods_count = ap (λ (l : List Bool). length l) (c.in_ok-vec-5.ensures.items_if_clones_equal (λ y e. e)) ∙ length-replicate c.count-5.result _ ∙ c.count-5.ensures;
}

pub returns-clause-none : goal.returns-clause-none
returns-clause-none c =
    let m = c.args.numbering.now in
    let protos = kept_none _ c.in_ok-vec-3.field-0.items m.protos (c.in_ok-vec-3.ensures.items_if_clones_equal (λ y e. e)) in
    let fields = kept_none _ c.in_ok-vec-4.field-0.items m.fields (c.in_ok-vec-4.ensures.items_if_clones_equal (λ y e. e)) in
    let methods = kept_none _ c.in_ok-vec-5.field-0.items m.methods (c.in_ok-vec-5.ensures.items_if_clones_equal (λ y e. e)) in
    λ i. map TextSymbol ((kept_none _ c.in_ok-vec.field-0.items m.texts (c.in_ok-vec.ensures.items_if_clones_equal (λ y e. e))) i) ++ (map TypeSymbol ((kept_none _ c.in_ok-vec-2.field-0.items m.types (c.in_ok-vec-2.ensures.items_if_clones_equal (λ y e. e))) i) ++ (map ProtoSymbol (protos i) ++ (map FieldSymbol (fields i) ++ map MethodSymbol (methods i))))
