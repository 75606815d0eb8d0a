-- Unions of collections, caps, fitting, plans, and the causes for which there is no merged file. This project's rules.
use Rattle.std.specs.Prelude.{◌≡◌, ◌≢◌, ℕ, ◌+◌, ◌<◌, ◌≤◌, max, List, [], ◌∷◌, ◌++◌, length, All, slice_index}
use Rattle.std.specs.Prelude.{slice_index_or, Some, true}
use Rattle.std.specs.List.{flat_map, Contains}
use Rattle.std.specs.declared.cmp.Ordering.TheVariants.{Less}
use Rattle.dexspec.specs.Lists.{AreDistinct, rank}
use Rattle.dexspec.specs.Texts.{Text, text_cmp}
use Rattle.dexspec.specs.Symbols.{TextSymbol}
use Rattle.dexspec.specs.Pieces.{Instruction, low_byte}
use Rattle.dexspec.specs.Code.{Code}
use Rattle.dexspec.specs.Classes.{Body, Definition, MethodDef, declared_methods}
use Rattle.dexspec.specs.Files.{AreWithin}
use Rattle.dexspec.specs.Mentions.{mentions}
use Rattle.dexspec.specs.Depth.{is_defined, HasDepth, IsAcyclic}
use Rattle.dexspec.specs.Weight.{weight, most_weight}

-- ---- caps

-- the maximum number of each kind
pub record Caps : Type 0 where
  pub types : ℕ
  pub protos : ℕ
  pub fields : ℕ
  pub methods : ℕ
  pub short_strings : ℕ
  pub weight : ℕ

-- the caps of the format
abbrev pub greatest_caps : Caps
greatest_caps =
    record {
      types = 65535;
      protos = 65535;
      fields = 65536;
      methods = 65536;
      short_strings = 65536;
      weight = most_weight;
    }

-- the caps are within those of the format
pub record AreCaps (caps : Caps) : Type 0 where
  pub types : caps.types ≤ 65535
  pub protos : caps.protos ≤ 65535
  pub fields : caps.fields ≤ 65536
  pub methods : caps.methods ≤ 65536
  pub short_strings : caps.short_strings ≤ 65536
  pub weight : caps.weight ≤ most_weight

-- the clauses of fitting, in the order in which they are reported
pub data Cap : Type 0 where
  TypeCap ProtoCap FieldCap MethodCap ShortStringCap WeightCap : Cap

-- the number that a fault reports
abbrev pub cap_number : Cap → ℕ
cap_number TypeCap = 1
cap_number ProtoCap = 2
cap_number FieldCap = 3
cap_number MethodCap = 4
cap_number ShortStringCap = 5
cap_number WeightCap = 6

-- some definition has a const-string, not a jumbo one, of the text
pub record HasShortString (D : List Definition) (s : Text) : Type 0 where
  pub definition : Definition
  pub method : MethodDef
  pub code : Code
  pub units : List ℕ
  pub member : Contains D definition
  pub declared : Contains (declared_methods definition.1) method
  pub has_code : method.code ≡ Some code
  pub piece : Contains code.pieces (Instruction units (Some (TextSymbol s)))
  pub short : low_byte (slice_index units 0) ≡ 0x1a

-- The clause fails. For the weight: some members, no two of them equal, weigh more.
abbrev pub Exceeds : Caps → List Definition → Cap → Type 0
Exceeds caps D TypeCap = caps.types < length (mentions D).types
Exceeds caps D ProtoCap = caps.protos < length (mentions D).protos
Exceeds caps D FieldCap = caps.fields < length (mentions D).fields
Exceeds caps D MethodCap = caps.methods < length (mentions D).methods
Exceeds caps D ShortStringCap =
    (s : Text) × HasShortString D s × (caps.short_strings ≤ rank text_cmp s (mentions D).texts)
Exceeds caps D WeightCap = (E : List Definition) × AreDistinct E × AreWithin E D × (caps.weight < weight E)

-- the definitions fit the caps
pub record Fits (caps : Caps) (D : List Definition) : Type 0 where
  pub types : length (mentions D).types ≤ caps.types
  pub protos : length (mentions D).protos ≤ caps.protos
  pub fields : length (mentions D).fields ≤ caps.fields
  pub methods : length (mentions D).methods ≤ caps.methods
  pub short_strings : (s : Text) → HasShortString D s → rank text_cmp s (mentions D).texts < caps.short_strings
  pub weight : (E : List Definition) → AreDistinct E → AreWithin E D → weight E ≤ caps.weight

-- ---- merging, and causes

-- this name has two different definitions
pub record IsConflict (D : List Definition) (name : Text) : Type 0 where
  pub one : Body
  pub other : Body
  pub one_in : Contains D (name, one)
  pub other_in : Contains D (name, other)
  pub unequal : one ≢ other

-- no name has two definitions
abbrev pub IsConsistent : List Definition → Type 0
IsConsistent D = (name : Text) (one other : Body) → Contains D (name, one) → Contains D (name, other) → one ≡ other

-- Good: no name has two definitions, each defined name has a depth, and the definitions fit the caps. If they are well
-- formed too, they can be written as one file.
pub record IsGood (caps : Caps) (D : List Definition) : Type 0 where
  pub consistent : IsConsistent D
  pub acyclic : IsAcyclic D
  pub fits : Fits caps D

-- a name is defined and has no depth
pub record IsCycle (D : List Definition) (name : Text) : Type 0 where
  pub defined : is_defined D name ≡ true
  pub deep : HasDepth D name → ⊥

-- the reason why there is no merged file
pub data Cause : Type 0 where
  Conflict Cycle : (name : Text) → Cause
  Exceeded : (cap : Cap) → Cause

-- the cause holds for the definitions
abbrev pub IsCause : Caps → List Definition → Cause → Type 0
IsCause caps D (Conflict name) = IsConflict D name
IsCause caps D (Cycle name) = IsCycle D name
IsCause caps D (Exceeded cap) = Exceeds caps D cap

-- of two causes the one that is reported: a conflict before a cycle before a cap, then the least
abbrev pub IsReportedBefore : Cause → Cause → Type 0
IsReportedBefore (Conflict m) (Conflict n) = text_cmp m n ≡ Less
IsReportedBefore (Conflict m) (Cycle n) = Unit {0}
IsReportedBefore (Conflict m) (Exceeded k) = Unit {0}
IsReportedBefore (Cycle m) (Conflict n) = ⊥
IsReportedBefore (Cycle m) (Cycle n) = text_cmp m n ≡ Less
IsReportedBefore (Cycle m) (Exceeded k) = Unit {0}
IsReportedBefore (Exceeded j) (Conflict n) = ⊥
IsReportedBefore (Exceeded j) (Cycle n) = ⊥
IsReportedBefore (Exceeded j) (Exceeded k) = cap_number j < cap_number k

-- the first cause that holds for the definitions
pub record IsFirstCause (caps : Caps) (D : List Definition) (cause : Cause) : Type 0 where
  pub is : IsCause caps D cause
  pub first : (other : Cause) → IsCause caps D other → IsReportedBefore other cause → ⊥

-- ---- plans

-- A plan: a file's number, or parts that are merged first.
mutual
  pub data Plan : Type 0 where
    Leaf : (file : ℕ) → Plan
    Node : (parts : Plans) → Plan

  pub data Plans : Type 0 where
    NoPlans : Plans
    ThenPlan : (first : Plan) → (rest : Plans) → Plans

abbrev mutual
  -- the numbers of the files that a plan names, from the left
  pub leaves : Plan → List ℕ
  leaves (Leaf file) = file ∷ []
  leaves (Node ps) = all_leaves ps

  -- the numbers of the files of all parts
  pub all_leaves : Plans → List ℕ
  all_leaves NoPlans = []
  all_leaves (ThenPlan p ps) = leaves p ++ all_leaves ps

abbrev mutual
  -- a leaf and a node without parts have depth 1; another node has a depth one more than its deepest part
  pub plan_depth : Plan → ℕ
  plan_depth (Leaf file) = 1
  plan_depth (Node ps) = plans_depth ps + 1

  -- the depth of the deepest part
  pub plans_depth : Plans → ℕ
  plans_depth NoPlans = 0
  plans_depth (ThenPlan p ps) = max (plan_depth p) (plans_depth ps)

-- the maximum depth of a plan
abbrev pub most_plan_depth : ℕ
most_plan_depth = 64

-- the plan names each of `files` files, and no other, and is not too deep
pub record IsPlanFor (files : ℕ) (plan : Plan) : Type 0 where
  pub known : All (λ i. i < files) (leaves plan)
  pub named : (i : ℕ) → i < files → Contains (leaves plan) i
  pub shallow : plan_depth plan ≤ most_plan_depth

-- each of the parts is a leaf
abbrev pub AreLeaves : Plans → Type 0
AreLeaves NoPlans = Unit {0}
AreLeaves (ThenPlan (Leaf file) ps) = AreLeaves ps
AreLeaves (ThenPlan (Node qs) ps) = ⊥

-- a leaf, or a node of leaves: the plans that report the first cause
abbrev pub IsFlat : Plan → Type 0
IsFlat (Leaf file) = Unit {0}
IsFlat (Node ps) = AreLeaves ps

-- all definitions of the files that the plan names
abbrev pub union : List (List Definition) → Plan → List Definition
union files plan = flat_map (λ i. slice_index_or files i []) (leaves plan)
