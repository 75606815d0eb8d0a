-- Where every symbol is marked, a numbering is kept whole, and only there.
use Rattle.dexpool.proofs.Common.{◌≡◌, ◌↔◌, ◌≤◌, Bool, true, false, IsTrue, List, [], ◌∷◌, length, refl, sym, ap, ◌∙◌, arith, All, false≢true, All-nil, All-cons, All-head, All-tail, Mentions, closed, kept, AreMarksOf, marked, symbols_in, AreTables, Tables, Marks, AreClosure, kept_symbols, HaveAllMarks}
use Rattle.dexpool.proofs.KeptSymbols.{closed_count, kept_mentioned}

-- ---- one list

-- where each member is marked, the list is kept
list_kept : {X : Type 0} (marks : List Bool) (xs : List X) → length marks ≡ length xs → All IsTrue marks → kept marks xs ≡ xs
list_kept [] [] count all = refl
list_kept [] (x ∷ xs) count all = absurd (omega (arith, count))
list_kept (mark ∷ marks) [] count all = refl
list_kept (true ∷ marks) (x ∷ xs) count all = λ i. x ∷ (list_kept marks xs (omega (arith, count)) (All-tail IsTrue true marks all)) i
list_kept (false ∷ marks) (x ∷ xs) count all = absurd (false≢true (All-head IsTrue false marks all))

-- a cut is no longer than the list
length-kept : {X : Type 0} (marks : List Bool) (xs : List X) → length (kept marks xs) ≤ length xs
length-kept (true ∷ marks) (x ∷ xs) = omega (arith, length-kept marks xs)
length-kept (false ∷ marks) (x ∷ xs) = omega (arith, length-kept marks xs)
length-kept _ _ = omega arith

-- where it is as long, each member is marked
all_marked : {X : Type 0} (marks : List Bool) (xs : List X) → length marks ≡ length xs → length (kept marks xs) ≡ length xs → All IsTrue marks
all_marked [] xs count long = All-nil IsTrue
all_marked (mark ∷ marks) [] count long = absurd (omega (arith, count))
all_marked (true ∷ marks) (x ∷ xs) count long = All-cons IsTrue true marks refl (all_marked marks xs (omega (arith, count)) (omega (arith, long)))
all_marked (false ∷ marks) (x ∷ xs) count long = absurd (omega (arith, long, length-kept marks xs))

-- ---- a numbering

module _ (m : Mentions) (marks : Marks) (count : AreMarksOf m marks) where
  numbering_kept : HaveAllMarks marks → kept_symbols marks m ≡ m
  numbering_kept all =
      let fs = list_kept marks.fields.items m.fields count.fields_count all.fields_marked in
      let xs = list_kept marks.methods.items m.methods count.methods_count all.methods_marked in
      λ i. record {
        texts = (list_kept marks.strings.items m.texts count.strings_count all.strings_marked) i;
        types = (list_kept marks.types.items m.types count.types_count all.types_marked) i;
        protos = (list_kept marks.protos.items m.protos count.protos_count all.protos_marked) i;
        fields = fs i;
        methods = xs i;
      }

  have_all_marks : kept_symbols marks m ≡ m → HaveAllMarks marks
  have_all_marks e = record {
    strings_marked = all_marked marks.strings.items m.texts count.strings_count (ap (λ (n : Mentions). length n.texts) e);
    types_marked = all_marked marks.types.items m.types count.types_count (ap (λ (n : Mentions). length n.types) e);
    protos_marked = all_marked marks.protos.items m.protos count.protos_count (ap (λ (n : Mentions). length n.protos) e);
    fields_marked = all_marked marks.fields.items m.fields count.fields_count (ap (λ (n : Mentions). length n.fields) e);
    methods_marked = all_marked marks.methods.items m.methods count.methods_count (ap (λ (n : Mentions). length n.methods) e);
  }

-- the closed marks say whether what the marked symbols mention is every symbol
pub whole_if_marked : (t : Tables) → AreTables t → (marks : Marks) → AreMarksOf (symbols_in t) marks → (c : Marks) → AreClosure t marks c → HaveAllMarks c ↔ (closed (marked (symbols_in t) marks) ≡ symbols_in t)
whole_if_marked t ok marks count c is =
    let m = symbols_in t in
    let are_closed = closed_count t ok marks count c is in
    let mentioned = kept_mentioned t ok marks count c is in (λ all. sym mentioned ∙ numbering_kept m c are_closed all, λ whole. have_all_marks m c are_closed (mentioned ∙ whole))
