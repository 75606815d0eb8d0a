use Rattle.dexids.proofs.Common.{◌≡◌, ℕ, Some, sym, subst, ◌∙◌, inl, inr, ne_eqb, nat_eq, cases_eq, CheckedList, IsChecked}
use Rattle.std.specs.HashMap.{get}
use Rattle.dexids.proofs.protos.ProtoReader.note.Goals as goal

one_value : (j k : CheckedList) → Some j ≡ Some k → k ≡ j
one_value j k e = cc

pub add-requires-clause-lists : goal.add-requires-clause-lists
add-requires-clause-lists c = record {
  checked = λ o j e.
      let types = c.args.self.now.names.now.types.now in
      elim (cases_eq c.args.off o) [
        | inl same ↦ subst (λ (n : ℕ). IsChecked c.args.self.now.names.now.frame.now c.args.self.now.names.now.strings.now types n j) same
            (subst (IsChecked c.args.self.now.names.now.frame.now c.args.self.now.names.now.strings.now types c.args.off) (one_value j c.args.list (sym (subst (λ (n : ℕ). get nat_eq c.insert.new.self n ≡ Some j) (sym same) e) ∙ c.in_ok-insert.ensures.updates.1)) c.requires.checked)
        | inr apart ↦ c.requires.lists.checked o j (sym (c.in_ok-insert.ensures.updates.2 o (ne_eqb c.args.off o apart)) ∙ e)
      ];
  letters_are = c.requires.lists.letters_are;
}
