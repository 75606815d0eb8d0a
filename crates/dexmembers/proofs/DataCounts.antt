-- Class data in the file: without one of its parts there is none.
use Rattle.dexmembers.proofs.Common.{◌≡◌, ℕ, ◌+◌, ◌<◌, List, [], ◌∷◌, length, get_or, ap, sym, subst, ◌∙◌, refl, arith, Sequence, Uleb128At, Mentions, one_uleb128}
use Rattle.dexspec.proofs.lists.Sequences.{one_sequence}
use Rattle.dexcode.proofs.Prefixes.{stuck}
use Rattle.dexmembers.specs.declared.class_data.EncodedField.{EncodedField}
use Rattle.dexmembers.specs.internal.EncodedMembers.{FieldAt, MethodAt, ListsAt, AreListsRead, NoLists, NoData}
use Rattle.dexmembers.proofs.OneMember.{one_field}
use Rattle.dexmembers.proofs.MemberChains.{one_pair}

-- where no number follows, there are no more of them
pub numbers_stuck : (b : List ℕ) (o p : ℕ) (xs ys : List ℕ) (n m : ℕ) → length xs < length ys → Sequence Uleb128At b o xs n → p ≡ o + n → ((v k : ℕ) → Uleb128At b p v k → ⊥) → Sequence Uleb128At b o ys m → ⊥
numbers_stuck b o p xs ys n m lt h e absent g = stuck Uleb128At one_uleb128 b o xs ys n m lt h (λ v k there. absent v k (subst (λ (q : ℕ). Uleb128At b q v k) (sym e) there)) g

module _ (m : Mentions) (class : ℕ) (b : List ℕ) (o a c d e size : ℕ) (counts : Sequence Uleb128At b o (a ∷ c ∷ d ∷ e ∷ []) size) where
  -- without its fields
  pub no_fields : NoLists (FieldAt m class) (λ f. f.index) b (o + size) a c → NoData m class b o
  no_fields none ss is ds vs g =
      let same = one_sequence Uleb128At one_uleb128 b o (length ss ∷ length is ∷ length ds ∷ length vs ∷ []) (a ∷ c ∷ d ∷ e ∷ []) g.counts_size size refl g.counts counts in
      none ss is g.fields_size (ap (λ (l : List ℕ). get_or l 0 0) same.0) (ap (λ (l : List ℕ). get_or l 1 0) same.0)
      (subst (λ (i : ℕ). ListsAt (FieldAt m class) (λ f. f.index) b (o + i) ss is g.fields_size) same.1 g.fields)

  -- without its methods
  pub no_methods : (xs ys : List EncodedField) (n : ℕ) → AreListsRead (FieldAt m class) (λ f. f.index) b (o + size) a c xs ys n → NoLists (MethodAt m class) (λ x. x.index) b (o + size + n) d e → NoData m class b o
  no_methods xs ys n read none ss is ds vs g =
      let same = one_sequence Uleb128At one_uleb128 b o (length ss ∷ length is ∷ length ds ∷ length vs ∷ []) (a ∷ c ∷ d ∷ e ∷ []) g.counts_size size refl g.counts counts in
      let moved = subst (λ (i : ℕ). ListsAt (FieldAt m class) (λ f. f.index) b (o + i) ss is g.fields_size) same.1 g.fields in
      let fields = one_pair (FieldAt m class) (λ f. f.index) (one_field m class) b (o + size) ss is xs ys g.fields_size n
      (ap (λ (l : List ℕ). get_or l 0 0) same.0 ∙ sym read.many) (ap (λ (l : List ℕ). get_or l 1 0) same.0 ∙ sym read.others) moved read.are_encoded in
      let place : o + g.counts_size + g.fields_size ≡ o + size + n = omega (arith, same.1, fields.2) in
      none ds vs g.methods_size (ap (λ (l : List ℕ). get_or l 2 0) same.0) (ap (λ (l : List ℕ). get_or l 3 0) same.0)
      (subst (λ (i : ℕ). ListsAt (MethodAt m class) (λ x. x.index) b i ds vs g.methods_size) place g.methods)
