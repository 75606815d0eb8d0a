-- The definitions of the parts of a plan.
use Rattle.dexmerge.proofs.Common.{◌≡◌, ℕ, zero, suc, ◌<◌, ◌≢◌, List, [], ◌∷◌, ◌++◌, length, get_or, refl, sym, ap, ◌∙◌, subst, inl, inr, slice_set, cases_eq, length-set, Contains, flat_map, append-nil, flat_map-append, Contains-append_left, Contains-append_right, Contains-append_cases, Contains-get_or, Definition, Collection, definitions, AreSame, AreWithin, Caps, Cause, IsFirstCause, AreLeaves, Plan, Leaf, Node, leaves, all_leaves, Contains-nil, Contains-cons_cases, Contains-flat_map, IsGood-within, IsCause-within, first_cause-same, All-contains, AreAmong-append, AreAmong-refl}
use Rattle.dexspec.specs.Merging as merging
use Rattle.dexmerge.specs.declared.faults.MergeFault.{MergeFault}
use Rattle.dexmerge.specs.declared.faults.MergeFault.TheVariants as fault
use Rattle.dexmerge.proofs.Marked.{part_leaves}
use Rattle.dexmerge.specs.{plans_of, IsMerged, Reports, planned}
use Rattle.dexmerge.specs.internal.Parts.{of_file, of_plans, AreKnown, AreLeft, IsCauseOf}

-- ---- what faults report

pub reports_other : (P Q : Cause → Type 0) → ((cause : Cause) → P cause → Q cause) → (f : MergeFault) → Reports P f → Reports Q f
reports_other P Q h (fault.Conflict name) x = h (merging.Conflict name) x
reports_other P Q h (fault.Cycle name) x = h (merging.Cycle name) x
reports_other P Q h (fault.Cap number) x = record { cap = x.cap; number_is = x.number_is; holds = h (merging.Exceeded x.cap) x.holds }
reports_other P Q h fault.Memory x = tt

-- ---- definitions of the same members

pub merged_same : (caps : Caps) (D E : List Definition) (K : Collection) → AreSame D E → IsMerged caps D K → IsMerged caps E K
merged_same caps D E K same h = record {
  good = IsGood-within E D (λ d. (same d).1) caps h.good;
  collection = λ name c. (λ e. (same (name, c)).0 ((h.collection name c).0 e), λ has. (h.collection name c).1 ((same (name, c)).1 has));
}

pub reports_same : (caps : Caps) (D E : List Definition) (f : MergeFault) → AreSame D E → Reports (IsFirstCause caps D) f → Reports (IsFirstCause caps E) f
reports_same caps D E f same = reports_other (IsFirstCause caps D) (IsFirstCause caps E) (λ cause x. first_cause-same caps D E cause same x) f

-- ---- the parts of a node

-- the definitions of a node are those of its parts
pub parts_are : (files : List Collection) (ps : List Plan) → of_plans files ps ≡ planned files (Node (plans_of ps))
parts_are files [] = refl
parts_are files (p ∷ ps) = ap (λ (l : List Definition). planned files p ++ l) (parts_are files ps) ∙ sym (flat_map-append (of_file files) (leaves p) (all_leaves (plans_of ps)))

-- one part more
pub of_plans_more : (files : List Collection) (ps : List Plan) (p : Plan) → of_plans files (ps ++ p ∷ []) ≡ of_plans files ps ++ planned files p
of_plans_more files ps p = flat_map-append (planned files) ps (p ∷ []) ∙ ap (λ (l : List Definition). of_plans files ps ++ l) (append-nil (planned files p))

-- the definitions of a part are among those of the whole
part_within : (files : List Collection) (ps : List Plan) (p : Plan) → Contains ps p → AreWithin (planned files p) (planned files (Node (plans_of ps)))
part_within files ps p has d c = subst (λ (l : List Definition). Contains l d) (parts_are files ps) (Contains-flat_map (planned files) ps p d has c)

-- a node among the parts is no leaf
no_leaves : (ps : List Plan) (qs : merging.Plans) → Contains ps (Node qs) → AreLeaves (plans_of ps) → ⊥
no_leaves [] qs has all = Contains-nil (Node qs) has
no_leaves (Leaf file ∷ ps) qs has all = elim (Contains-cons_cases (Leaf file) (Node qs) ps has) [ inl e ↦ absurd cc | inr later ↦ no_leaves ps qs later all ]
no_leaves (Node rs ∷ ps) qs has never = never

-- the first cause is a cause
pub first_reports : (files : List Collection) (caps : Caps) (p : Plan) (f : MergeFault) → Reports (IsFirstCause caps (planned files p)) f → Reports (IsCauseOf caps files p) f
first_reports files caps p f = reports_other (IsFirstCause caps (planned files p)) (IsCauseOf caps files p) (λ cause x. record { holds = x.is; first = λ flat. x }) f

-- ---- what is left of files

-- nothing was taken yet
pub all_left : (files : List Collection) → AreLeft [] files files
all_left files = record { count = refl; each = λ i. inl refl }

module _ (G N : List Collection) (D : List Definition) (left : AreLeft D G N) where
  -- what files have now they had
  now_within : (numbers : List ℕ) → AreWithin (flat_map (of_file N) numbers) (flat_map (of_file G) numbers)
  now_within [] d c = c
  now_within (i ∷ numbers) d c = AreAmong-append (of_file N i) (flat_map (of_file N) numbers) (of_file G i) (flat_map (of_file G) numbers) (λ e x. elim (left.each i) [
    | inl same ↦ subst (λ (l : List Definition). Contains l e) same x
    | inr taken ↦ absurd (Contains-nil e (subst (λ (l : List Definition). Contains l e) taken.0 x))
  ]) (now_within numbers) d c

  -- what they had they have now, or it was taken
  had_within : (numbers : List ℕ) → AreWithin (flat_map (of_file G) numbers) (D ++ flat_map (of_file N) numbers)
  had_within [] d c = absurd (Contains-nil d c)
  had_within (i ∷ numbers) d c = elim (Contains-append_cases (of_file G i) (flat_map (of_file G) numbers) d c) [
    | inl own ↦ elim (left.each i) [
      | inl same ↦ Contains-append_right D (of_file N i ++ flat_map (of_file N) numbers) d (Contains-append_left (of_file N i) (flat_map (of_file N) numbers) d (subst (λ (l : List Definition). Contains l d) (sym same) own))
      | inr taken ↦ Contains-append_left D (of_file N i ++ flat_map (of_file N) numbers) d (taken.1 d own)
    ]
    | inr later ↦ AreAmong-append D (flat_map (of_file N) numbers) D (of_file N i ++ flat_map (of_file N) numbers) (AreAmong-refl D) (λ e. Contains-append_right (of_file N i) (flat_map (of_file N) numbers) e) d (had_within numbers d later)
  ]

  -- the files of a plan are taken too
  pub more_left : (p : Plan) (O : List Collection) → AreLeft (planned N p) N O → AreLeft (D ++ planned G p) G O
  more_left p O next = record {
    count = next.count ∙ left.count;
    each = λ i. elim (next.each i) [
      | inl same ↦ elim (left.each i) [
        | inl still ↦ inl (same ∙ still)
        | inr taken ↦ inr (same ∙ taken.0, λ d c. Contains-append_left D (planned G p) d (taken.1 d c))
      ]
      | inr now ↦ elim (left.each i) [
        | inl still ↦ inr (now.0, λ d c. Contains-append_right D (planned G p) d (now_within (leaves p) d (now.1 d (subst (λ (l : List Definition). Contains l d) (sym still) c))))
        | inr taken ↦ inr (now.0, λ d c. Contains-append_left D (planned G p) d (taken.1 d c))
      ]
    ];
  }

  -- and their definitions are there with those that were taken
  pub more_same : (p : Plan) (programs : List Collection) (K : Collection) → AreSame (flat_map definitions programs) D → AreSame (definitions K) (planned N p) → AreSame (flat_map definitions (programs ++ K ∷ [])) (D ++ planned G p)
  more_same p programs K same own d =
      let E = flat_map definitions programs in
      let all : flat_map definitions (programs ++ K ∷ []) ≡ E ++ definitions K = flat_map-append definitions programs (K ∷ []) ∙ ap (λ (l : List Definition). E ++ l) (append-nil (definitions K)) in (
        λ c. AreAmong-append E (definitions K) D (planned G p) (λ e. (same e).0) (λ e x. now_within (leaves p) e ((own e).0 x)) d (subst (λ (l : List Definition). Contains l d) all c),
        λ c. subst (λ (l : List Definition). Contains l d) (sym all) (elim (Contains-append_cases D (planned G p) d c) [
          | inl before ↦ Contains-append_left E (definitions K) d ((same d).1 before)
          | inr had ↦ AreAmong-append D (planned N p) E (definitions K) (λ e. (same e).1) (λ e. (own e).1) d (had_within (leaves p) d had)
        ]),
      )

  -- the cause of a node among the parts is one of the whole
  pub part_reports : (caps : Caps) (ps : List Plan) (qs : merging.Plans) (f : MergeFault) → Contains ps (Node qs) → Reports (IsCauseOf caps N (Node qs)) f → Reports (IsCauseOf caps G (Node (plans_of ps))) f
  part_reports caps ps qs f has = reports_other (IsCauseOf caps N (Node qs)) (IsCauseOf caps G (Node (plans_of ps))) (λ cause x. record {
    holds = IsCause-within (planned N (Node qs)) (planned G (Node (plans_of ps))) (λ d c. part_within G ps (Node qs) has d (now_within (leaves (Node qs)) d c)) caps cause x.holds;
    first = λ flat. absurd (no_leaves ps qs has flat);
  }) f

-- a file that defines nothing, instead of another
none_there : (files : List Collection) (number : ℕ) (K : Collection) → definitions K ≡ [] → of_file (slice_set files number K) number ≡ []
none_there [] number K none = refl
none_there (L ∷ Ls) zero K none = none
none_there (L ∷ Ls) (suc number) K none = none_there Ls number K none

others_there : (files : List Collection) (number i : ℕ) (K : Collection) → i ≢ number → of_file (slice_set files number K) i ≡ of_file files i
others_there [] number i K other = refl
others_there (L ∷ Ls) zero zero K other = absurd (other refl)
others_there (L ∷ Ls) zero (suc i) K other = refl
others_there (L ∷ Ls) (suc number) zero K other = refl
others_there (L ∷ Ls) (suc number) (suc i) K other = others_there Ls number i K (λ same. other (ap suc same))

-- one file was taken
pub file_left : (files : List Collection) (number : ℕ) (K : Collection) → definitions K ≡ [] → AreLeft (of_file files number) files (slice_set files number K)
file_left files number K none = record {
  count = length-set files number K;
  each = λ i. elim (cases_eq i number) [
    | inl same ↦ inr (ap (of_file (slice_set files number K)) same ∙ none_there files number K none, λ d c. subst (λ (k : ℕ). Contains (of_file files k) d) same c)
    | inr other ↦ inl (others_there files number i K other)
  ];
}

-- ---- part by part

-- these programs have the definitions of these parts, whose files were taken
pub record HaveTaken (ps : List Plan) (programs old new : List Collection) : Type 0 where
  pub same : AreSame (flat_map definitions programs) (of_plans old ps)
  pub left : AreLeft (of_plans old ps) old new

-- the program has the definitions of a part, whose files were taken
pub record IsTaken (p : Plan) (K : Collection) (old new : List Collection) : Type 0 where
  pub same : AreSame (definitions K) (planned old p)
  pub left : AreLeft (planned old p) old new

pub none_taken : (files : List Collection) → HaveTaken [] [] files files
none_taken files = record { same = λ d. (λ c. c, λ c. c); left = all_left files }

pub one_more_taken : (ps : List Plan) (p : Plan) (programs : List Collection) (K : Collection) (old now new : List Collection) → HaveTaken ps programs old now → IsTaken p K now new → HaveTaken (ps ++ p ∷ []) (programs ++ K ∷ []) old new
one_more_taken ps p programs K old now new h own =
    let all = sym (of_plans_more old ps p) in
    record {
      same = subst (AreSame (flat_map definitions (programs ++ K ∷ []))) all (more_same old now (of_plans old ps) h.left p programs K h.same own.same);
      left = subst (λ (D : List Definition). AreLeft D old new) all (more_left old now (of_plans old ps) h.left p new own.left);
    }

-- a file that was taken is the leaf of its number
pub leaf_taken : (files new : List Collection) (number : ℕ) (K : Collection) → definitions K ≡ of_file files number → AreLeft (of_file files number) files new → IsTaken (Leaf number) K files new
leaf_taken files new number K is left =
    let one : planned files (Leaf number) ≡ of_file files number = append-nil (of_file files number) in
    record {
      same = subst (AreSame (definitions K)) (is ∙ sym one) (λ d. (λ c. c, λ c. c));
      left = subst (λ (D : List Definition). AreLeft D files new) (sym one) left;
    }

-- so is the whole
pub leaf_alone : (files new : List Collection) (number : ℕ) (K : Collection) → IsTaken (Leaf number) K files new → HaveTaken (Leaf number ∷ []) (K ∷ []) files new
leaf_alone files new number K own = one_more_taken [] (Leaf number) [] K files files new (none_taken files) own

-- the files of a part are known
pub part_known : (files : List Collection) (ps : List Plan) (p : Plan) → Contains ps p → AreKnown files (Node (plans_of ps)) → AreKnown files p
part_known files ps p has known i d lt = All-contains (λ k. k < length files) (all_leaves (plans_of ps)) (get_or (leaves p) i d) known (part_leaves ps p (get_or (leaves p) i d) has (Contains-get_or (leaves p) i d lt))
