use Rattle.dexmembers.proofs.Common.{List, length, sym, subst, arith, err_from_is_err_and, AreRising, set_at}
use Rattle.dexmembers.specs.HeldCodes.{methods_in}
use Rattle.dexmembers.specs.StaticValues.{values_in}
use Rattle.dexmembers.specs.internal.Attaching.{held_codes}
use Rattle.dexmembers.specs.internal.MethodCodes.{AreCodesOf, IsCodesFaultWithin}
use Rattle.dexmembers.specs.declared.class_data.EncodedMethod.{EncodedMethod}
use Rattle.dexval.specs.CheckedStatics.{AreCheckedStatics}
use Rattle.dexmembers.proofs.AfterFaults.{still_holds}
use Rattle.dexmembers.proofs.Attachments.{fields_attached, methods_attached, fields_held, methods_held, few_places}
use Rattle.dexmembers.proofs.RowsAreAt.{annotations_part, direct_part, virtual_part, values_part}
use Rattle.dexmembers.proofs.row_reader.RowReader.read_contents.Goals as goal

pub returns-in_err-directory-clause-refused : goal.returns-in_err-directory-clause-refused
returns-in_err-directory-clause-refused c = λ r row pools is.
    let rising = subst AreRising c.numbering.ensures c.is_numbering.ensures.rising in
    let p = err_from_is_err_and c.from_residual.result c.from_residual.ensures.1 in
    rw (p.1, p.2) (annotations_part c.args.self.now.frame.now r c.args.self.now.pools.now c.args.self.now.declared.now is c.args.self.now.most pools rising c.in_err-directory.field-0.0 (c.in_err-directory.ensures.refused r (sym row.annotations_are) pools is))

pub returns-in_err-direct_methods-clause-refused : goal.returns-in_err-direct_methods-clause-refused
returns-in_err-direct_methods-clause-refused c = λ r row pools is.
    let b = c.args.self.now.frame.now in
    let most = c.args.self.now.most in
    let p = err_from_is_err_and c.from_residual-in_err-direct_methods.result c.from_residual-in_err-direct_methods.ensures.1 in
    rw (p.1, p.2) (direct_part b r c.args.self.now.pools.now c.args.self.now.declared.now is most c.in_err-direct_methods.field-0.0 (subst (λ (l : List EncodedMethod). IsCodesFaultWithin b l most c.in_err-direct_methods.field-0.0) c.deref.ensures.value (c.in_err-direct_methods.ensures.refused pools)))

pub returns-in_err-virtual_methods-clause-refused : goal.returns-in_err-virtual_methods-clause-refused
returns-in_err-virtual_methods-clause-refused c = λ r row pools is.
    let b = c.args.self.now.frame.now in
    let most = c.args.self.now.most in
    let p = err_from_is_err_and c.from_residual-in_err-virtual_methods.result c.from_residual-in_err-virtual_methods.ensures.1 in
    rw (p.1, p.2) (virtual_part b r c.args.self.now.pools.now c.args.self.now.declared.now is most c.in_err-virtual_methods.field-0.0 (subst (λ (l : List EncodedMethod). IsCodesFaultWithin b l most c.in_err-virtual_methods.field-0.0) c.deref-4.ensures.value (c.in_err-virtual_methods.ensures.refused pools)))

pub returns-in_err-static_values-clause-refused : goal.returns-in_err-static_values-clause-refused
returns-in_err-static_values-clause-refused c = λ r row pools is.
    let b = c.args.self.now.frame.now in
    let most = c.args.self.now.most in
    let p = err_from_is_err_and c.from_residual-in_err-static_values.result c.from_residual-in_err-static_values.ensures.1 in
    rw (p.1, p.2) (values_part b r c.args.self.now.pools.now c.args.self.now.declared.now is most c.in_err-static_values.field-0.0 (c.in_err-static_values.ensures.refused r (sym row.static_values_are) pools))

pub returns-clause-read : goal.returns-clause-read
returns-clause-read c = λ r row pools is.
    let b = c.args.self.now.frame.now in
    let m = c.args.self.now.pools.now in
    let most = c.args.self.now.most in
    let a = c.in_ok-directory.directory in
    let direct = held_codes (methods_in c.in_ok-direct_methods.direct_methods) in
    let virtual = held_codes (methods_in c.in_ok-virtual_methods.virtual_methods) in
    let annotations = c.in_ok-directory.ensures.read r (sym row.annotations_are) pools is in
    let entered = annotations.entered in
    let statics = fields_attached a.table.sets c.deref-7.ensures.value c.deref-8.ensures.value entered.fields_entered c.in_ok-attach_fields.ensures.fields in
    let instances = fields_attached a.table.sets c.deref-9.ensures.value c.deref-10.ensures.value entered.fields_entered c.in_ok-attach_fields-2.ensures.fields in
    let directs = methods_attached a.table direct c.deref.ensures.value c.deref-2.ensures.value c.deref-3.ensures.value entered.methods_entered entered.parameters_entered c.in_ok-direct_methods.ensures.methods in
    let virtuals = methods_attached a.table virtual c.deref-4.ensures.value c.deref-5.ensures.value c.deref-6.ensures.value entered.methods_entered entered.parameters_entered c.in_ok-virtual_methods.ensures.methods in
    record {
      directory = a;
      direct = direct;
      virtual = virtual;
      values = values_in c.in_ok-static_values.static_values;
      parts = record {
        annotations = annotations;
        light = c.in_ok-directory.ensures.within pools;
        direct_codes = subst (λ (l : List EncodedMethod). AreCodesOf b m l most direct) c.deref.ensures.value (c.in_ok-direct_methods.ensures.read pools);
        virtual_codes = subst (λ (l : List EncodedMethod). AreCodesOf b m l most virtual) c.deref-4.ensures.value (c.in_ok-virtual_methods.ensures.read pools);
        values = c.in_ok-static_values.ensures.read r (sym row.static_values_are) pools;
      };
      is = λ i. record {
        annotations = set_at a.table.sets a.own;
        static_fields = statics i;
        instance_fields = instances i;
        direct_methods = directs i;
        virtual_methods = virtuals i;
        static_values = values_in c.in_ok-static_values.static_values;
      };
      weight = omega (arith, c.saturating_add.ensures, c.in_ok-direct_methods.ensures.weight, c.in_ok-virtual_methods.ensures.weight);
    }

pub returns-clause-held : goal.returns-clause-held
returns-clause-held c =
    let a = c.in_ok-directory.directory in
    let held = c.in_ok-directory.ensures.held in
    let sets = length a.table.sets in
    let lists = length a.table.lists in
    record {
      own_held = held.own_held;
      static_fields_held = fields_held a.table.sets _ (c.in_ok-attach_fields.ensures.held sets (few_places c.deref-8.ensures.value held.fields_held));
      instance_fields_held = fields_held a.table.sets _ (c.in_ok-attach_fields-2.ensures.held sets (few_places c.deref-10.ensures.value held.fields_held));
      direct_methods_held = methods_held a.table _ (c.in_ok-direct_methods.ensures.sets_held sets (few_places c.deref-2.ensures.value held.methods_held)) (c.in_ok-direct_methods.ensures.lists_held lists (few_places c.deref-3.ensures.value held.parameters_held));
      virtual_methods_held = methods_held a.table _ (c.in_ok-virtual_methods.ensures.sets_held sets (few_places c.deref-5.ensures.value held.methods_held)) (c.in_ok-virtual_methods.ensures.lists_held lists (few_places c.deref-6.ensures.value held.parameters_held));
      direct_codes_placed = c.in_ok-direct_methods.ensures.placed;
      virtual_codes_placed = c.in_ok-virtual_methods.ensures.placed;
    }

pub returns-in_err-directory-clause-heavy : goal.returns-in_err-directory-clause-heavy
returns-in_err-directory-clause-heavy c = λ pools.
    let p = err_from_is_err_and c.from_residual.result c.from_residual.ensures.1 in
    rw (p.1, p.2) (still_holds (AreCheckedStatics c.args.self.now.frame.now c.args.self.now.pools.now c.args.checked.now) c.in_err-directory.field-0.0 (c.requires.checked pools))

pub returns-in_err-direct_methods-clause-heavy : goal.returns-in_err-direct_methods-clause-heavy
returns-in_err-direct_methods-clause-heavy c = λ pools.
    let p = err_from_is_err_and c.from_residual-in_err-direct_methods.result c.from_residual-in_err-direct_methods.ensures.1 in
    rw (p.1, p.2) (still_holds (AreCheckedStatics c.args.self.now.frame.now c.args.self.now.pools.now c.args.checked.now) c.in_err-direct_methods.field-0.0 (c.requires.checked pools))

pub returns-in_err-virtual_methods-clause-heavy : goal.returns-in_err-virtual_methods-clause-heavy
returns-in_err-virtual_methods-clause-heavy c = λ pools.
    let p = err_from_is_err_and c.from_residual-in_err-virtual_methods.result c.from_residual-in_err-virtual_methods.ensures.1 in
    rw (p.1, p.2) (still_holds (AreCheckedStatics c.args.self.now.frame.now c.args.self.now.pools.now c.args.checked.now) c.in_err-virtual_methods.field-0.0 (c.requires.checked pools))

pub returns-in_err-static_values-clause-heavy : goal.returns-in_err-static_values-clause-heavy
returns-in_err-static_values-clause-heavy c = λ pools.
    let p = err_from_is_err_and c.from_residual-in_err-static_values.result c.from_residual-in_err-static_values.ensures.1 in
    rw (p.1, p.2) (c.in_err-static_values.ensures.heavy pools)
