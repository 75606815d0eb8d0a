use Rattle.dexmembers.proofs.Common.{refl, sym, ◌∙◌, arith, row_at, ClassDefs}
use Rattle.dexids.proofs.Bytes.{uint_at_row}
use Rattle.dexmembers.proofs.class_def.ClassDef.at.Goals as goal

pub returns : goal.returns
returns c =
    let b = c.args.frame.now in
    let first = row_at b ClassDefs c.args.row in
    let fields = c.row-fields.result.now in
    record {
      class_is = sym (c.u32_at.ensures ∙ uint_at_row b fields first 32 0 first c.row-fields.ensures.bytes (omega arith) (omega arith));
      flags_are = sym (c.u32_at-2.ensures ∙ uint_at_row b fields first 32 4 _ c.row-fields.ensures.bytes (omega arith) refl);
      superclass_is = sym (c.u32_at-3.ensures ∙ uint_at_row b fields first 32 8 _ c.row-fields.ensures.bytes (omega arith) refl);
      interfaces_are = sym (c.u32_at-4.ensures ∙ uint_at_row b fields first 32 12 _ c.row-fields.ensures.bytes (omega arith) refl);
      source_is = sym (c.u32_at-5.ensures ∙ uint_at_row b fields first 32 16 _ c.row-fields.ensures.bytes (omega arith) refl);
      annotations_are = sym (c.u32_at-6.ensures ∙ uint_at_row b fields first 32 20 _ c.row-fields.ensures.bytes (omega arith) refl);
      class_data_is = sym (c.u32_at-7.ensures ∙ uint_at_row b fields first 32 24 _ c.row-fields.ensures.bytes (omega arith) refl);
      static_values_are = sym (c.u32_at-8.ensures ∙ uint_at_row b fields first 32 28 _ c.row-fields.ensures.bytes (omega arith) refl);
    }
