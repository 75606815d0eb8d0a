-- Plans whose files are marked part by part.
use Rattle.dexmerge.proofs.Common.{◌≡◌, ℕ, ◌-◌, ◌<◌, ◌≤◌, max, Bool, List, [], ◌∷◌, ◌++◌, length, get_or, refl, sym, ap, ◌∙◌, subst, arith, inl, inr, Contains, append_assoc, append-nil, All-append, Contains-append_left, Contains-append_right, Contains-append_cases, Contains-get_or, Contains-nil, Contains-cons_cases, Plan, Node, leaves, all_leaves, plan_depth, plans_depth, All-contains}
use Rattle.dexmerge.specs.{plans_of}
use Rattle.dexmerge.specs.internal.UnionChecks.{AreMarkedBy, IsMarkedBy, IsNoPlan}

-- the parts are less deep, name only files that there are, and just these are marked beside those that were
pub record ArePartsMarked (parts : List Plan) (depth : ℕ) (old new : List Bool) : Type 0 where
  pub count : length new ≡ length old
  pub shallow : plans_depth (plans_of parts) < depth
  pub files : AreMarkedBy (all_leaves (plans_of parts)) old new

-- ---- one part more

leaves_more : (ps : List Plan) (p : Plan) → all_leaves (plans_of (ps ++ p ∷ [])) ≡ all_leaves (plans_of ps) ++ leaves p
leaves_more [] p = append-nil (leaves p)
leaves_more (q ∷ ps) p = ap (λ (l : List ℕ). leaves q ++ l) (leaves_more ps p) ∙ sym (append_assoc (leaves q) (all_leaves (plans_of ps)) (leaves p))

depth_more : (ps : List Plan) (p : Plan) → plans_depth (plans_of (ps ++ p ∷ [])) ≡ max (plans_depth (plans_of ps)) (plan_depth p)
depth_more [] p = omega arith
depth_more (q ∷ ps) p = omega (arith, depth_more ps p)

pub none_marked : (depth : ℕ) (marks : List Bool) → 0 < depth → ArePartsMarked [] depth marks marks
none_marked depth marks lt = record {
  count = refl;
  shallow = lt;
  files = record {
    known = λ i d small. absurd (omega (arith, small));
    marked = λ i. (λ e. inl e, λ either. elim either [ inl e ↦ e | inr c ↦ absurd (Contains-nil i c) ]);
  };
}

pub one_more_marked : (ps : List Plan) (p : Plan) (depth : ℕ) (old mid new : List Bool) → ArePartsMarked ps depth old mid → 0 < depth → length new ≡ length mid → IsMarkedBy p (depth - 1) mid new → ArePartsMarked (ps ++ p ∷ []) depth old new
one_more_marked ps p depth old mid new h lt count m = record {
  count = count ∙ h.count;
  shallow = omega (arith, depth_more ps p, h.shallow, m.shallow, lt);
  files = subst (λ (l : List ℕ). AreMarkedBy l old new) (sym (leaves_more ps p)) (record {
    known = All-append (λ i. i < length old) (all_leaves (plans_of ps)) (leaves p) h.files.known (λ i d small. omega (arith, m.files.known i d small, h.count));
    marked = λ i. (
      λ e. elim ((m.files.marked i).0 e) [
        | inl before ↦ elim ((h.files.marked i).0 before) [
          | inl first ↦ inl first
          | inr c ↦ inr (Contains-append_left (all_leaves (plans_of ps)) (leaves p) i c)
        ]
        | inr c ↦ inr (Contains-append_right (all_leaves (plans_of ps)) (leaves p) i c)
      ],
      λ either. elim either [
        | inl first ↦ (m.files.marked i).1 (inl ((h.files.marked i).1 (inl first)))
        | inr c ↦ elim (Contains-append_cases (all_leaves (plans_of ps)) (leaves p) i c) [
          | inl before ↦ (m.files.marked i).1 (inl ((h.files.marked i).1 (inr before)))
          | inr now ↦ (m.files.marked i).1 (inr now)
        ]
      ],
    );
  });
}

-- all parts
pub all_marked : (ps : List Plan) (depth : ℕ) (old new : List Bool) → ArePartsMarked ps depth old new → IsMarkedBy (Node (plans_of ps)) depth old new
all_marked ps depth old new h = record { shallow = omega (arith, h.shallow); files = h.files }

-- ---- a part that is none

part_depth : (ps : List Plan) (p : Plan) → Contains ps p → plan_depth p ≤ plans_depth (plans_of ps)
part_depth [] p c = absurd (Contains-nil p c)
part_depth (q ∷ ps) p c = elim (Contains-cons_cases q p ps c) [
  | inl e ↦ omega (arith, ap plan_depth e)
  | inr later ↦ omega (arith, part_depth ps p later)
]

pub part_leaves : (ps : List Plan) (p : Plan) (i : ℕ) → Contains ps p → Contains (leaves p) i → Contains (all_leaves (plans_of ps)) i
part_leaves [] p i c has = absurd (Contains-nil p c)
part_leaves (q ∷ ps) p i c has = elim (Contains-cons_cases q p ps c) [
  | inl e ↦ Contains-append_left (leaves q) (all_leaves (plans_of ps)) i (subst (λ (x : Plan). Contains (leaves x) i) (sym e) has)
  | inr later ↦ Contains-append_right (leaves q) (all_leaves (plans_of ps)) i (part_leaves ps p i later has)
]

pub no_part : (ps : List Plan) (p : Plan) (depth files : ℕ) → Contains ps p → 0 < depth → IsNoPlan p (depth - 1) files → IsNoPlan (Node (plans_of ps)) depth files
no_part ps p depth files c lt h = record {
  not = λ shallow known. h.not (omega (arith, part_depth ps p c, shallow, lt)) (λ i d small. All-contains (λ k. k < files) (all_leaves (plans_of ps)) (get_or (leaves p) i d) known (part_leaves ps p (get_or (leaves p) i d) c (Contains-get_or (leaves p) i d small)));
}
