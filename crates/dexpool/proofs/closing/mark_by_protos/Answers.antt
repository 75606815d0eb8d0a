use Rattle.dexpool.proofs.Common.{◌≡◌, ◌∙◌, ◌∷◌, Bool, List, [], drop, drop_all, ap, sym, subst, arith, get_or, set, true, inl, inr, All, Contains-get_or, Contains-later, Span, ProtoEntry, span_of, IsMarked, mark_all, entry_types}
use Rattle.dexpool.proofs.KeptRows.{number_marked, number_left, numbers_marked, numbers_left, marked_before, mark_stays, mark_comes}
use Rattle.dexpool.proofs.closing.mark_by_protos.Goals as goal
use Rattle.dexpool.proofs.closing.mark_by_protos.Goals.{then-marks-i+then-not-is+else-loop-k-test, then-marks-i+else-not-is, else-marks-i}

pub loop-i-preserved : goal.loop-i-preserved
loop-i-preserved c =
    let rows = c.args.protos.now in
    let marks = c.args.marks.now in
    let i = c.loop-i.i in
    let old = c.loop-i.types in
    let new = c.if-marks-i.types in
    let none : ProtoEntry = record { shorty = 0; return_type = 0; parameters = record { start = 0; end = 0 } } in
    let p : ProtoEntry = get_or rows i none in
    let lists = c.args.parameters.now in
    let names = entry_types lists in
    let Known : List Bool → Span → Type 0 = λ ts s. All (IsMarked ts) (span_of lists s) in
    elim c.if-marks-i.branch [
      | then-marks-i+then-not-is+else-loop-k-test w ↦
          let none_left : drop w.loop-k.k w.part-numbers.result ≡ [] = drop_all w.loop-k.k w.part-numbers.result (omega (arith, w.loop-k-test.false, w.len-k-end.ensures)) in
          let grown : new ≡ mark_all old (names p) = w.types-is ∙ sym (ap (mark_all w.loop-k.types) none_left) ∙ w.loop-k.invariant ∙ ap (mark_all (set old p.return_type true)) w.part-numbers.ensures in
          record {
            strings = number_marked marks rows i none (omega arith) c.requires.marks _ _ _ (λ (q : ProtoEntry). q.shorty) w.if-marks-i.true w.strings-is c.loop-i.invariant.strings;
            known = subst (λ ts. Known ts c.if-marks-i.longest) (sym grown) (elim w.longer-longest.ensures [
              | inl same ↦ subst (Known (mark_all old (names p))) (sym (w.longest-is ∙ same)) (λ k d lt. mark_stays old (names p) _ (c.loop-i.invariant.known k d lt))
              | inr here ↦ subst (Known (mark_all old (names p))) (sym (w.longest-is ∙ here)) (λ k d lt.
                  mark_comes old (names p) (get_or (span_of lists p.parameters) k d) (omega (arith, (c.requires.within i none (omega arith)).parameters_in k d lt)) (Contains-later p.return_type _ (span_of lists p.parameters) (Contains-get_or (span_of lists p.parameters) k d lt)))
            ]);
            types = numbers_marked marks rows i none (omega arith) c.requires.marks _ _ _ names w.if-marks-i.true grown c.loop-i.invariant.types;
          }
      | then-marks-i+else-not-is w ↦
          let back = set old p.return_type true in
          let later : (s : Span) → Known old s → Known back s = λ s h k d lt. mark_stays old (p.return_type ∷ []) _ (h k d lt) in
          let grown : new ≡ mark_all old (names p) = w.types-is ∙ sym (marked_before back (span_of lists p.parameters) (subst (Known back) (w.is.ensures w.if-not-is.false) (later c.loop-i.longest c.loop-i.invariant.known))) in
          record {
            strings = number_marked marks rows i none (omega arith) c.requires.marks _ _ _ (λ (q : ProtoEntry). q.shorty) w.if-marks-i.true w.strings-is c.loop-i.invariant.strings;
            known = subst (λ ts. Known ts c.if-marks-i.longest) (sym w.types-is) (subst (Known back) (sym w.longest-is) (later c.loop-i.longest c.loop-i.invariant.known));
            types = numbers_marked marks rows i none (omega arith) c.requires.marks _ _ _ names w.if-marks-i.true grown c.loop-i.invariant.types;
          }
      | else-marks-i w ↦ record {
        strings = number_left marks rows i none (omega arith) c.requires.marks _ _ _ (λ (q : ProtoEntry). q.shorty) w.if-marks-i.false w.strings-is c.loop-i.invariant.strings;
        known = subst (λ ts. Known ts c.if-marks-i.longest) (sym w.types-is) (subst (Known old) (sym w.longest-is) c.loop-i.invariant.known);
        types = numbers_left marks rows i none (omega arith) c.requires.marks _ _ _ names w.if-marks-i.false w.types-is c.loop-i.invariant.types;
      }
    ]
