-- A plan of the code as the definitions see it.
use Rattle.dexmerge.proofs.Common.{◌≡◌, ℕ, ◌+◌, ◌<◌, List, [], ◌∷◌, ◌++◌, length, get_or, take, map, sym, ap, ◌∙◌, Vec, Global, Contains, take_more, map-append, Contains-map}
use Rattle.dexspec.specs.Merging as merging
use Rattle.dexmerge.specs.declared.plan.Plan.{Plan}
use Rattle.dexmerge.specs.declared.plan.Plan.TheVariants as variants
use Rattle.dexmerge.specs.declared.plan.Plan.TheOpen as layers
use Rattle.dexmerge.specs.declared.plan.Plan.TheFolds.{fold-roll-Plan}
use Rattle.dexmerge.specs.{plans_of, plan_step, plan_of}

-- a node is the node of its parts
pub node_is : (plan : Plan) (parts : Vec Plan Global) → plan ≡ variants.Node parts → plan_of plan ≡ merging.Node (plans_of (map plan_of parts.items))
node_is plan parts e = ap plan_of (e ∙ sym (variants.rolls-Node parts)) ∙ fold-roll-Plan merging.Plan plan_step (layers.Node parts)

pub node_with : (plan : Plan) (parts : Vec Plan Global) (items : List Plan) → plan ≡ variants.Node parts → items ≡ parts.items → plan_of plan ≡ merging.Node (plans_of (map plan_of items))
node_with plan parts items e same = node_is plan parts e ∙ ap (λ (l : List Plan). merging.Node (plans_of (map plan_of l))) (sym same)

-- a part is one of the parts
pub part_member : (parts : List Plan) (i : ℕ) (d : Plan) → i < length parts → d ≡ get_or parts i d → Contains (map plan_of parts) (plan_of d)
part_member parts i d lt e = Contains-map plan_of parts d (i, lt, sym e)

-- one part more
pub parts_more : (parts : List Plan) (i : ℕ) (d : Plan) → i < length parts → d ≡ get_or parts i d → map plan_of (take (i + 1) parts) ≡ map plan_of (take i parts) ++ plan_of d ∷ []
parts_more parts i d lt e = ap (map plan_of) (take_more parts i d lt ∙ ap (λ (x : Plan). take i parts ++ x ∷ []) (sym e)) ∙ map-append plan_of (take i parts) (d ∷ [])

-- a leaf is the leaf of its file
pub leaf_is : (plan : Plan) (file : ℕ) → plan ≡ variants.Leaf file → plan_of plan ≡ merging.Leaf file
leaf_is plan file e = ap plan_of (e ∙ sym (variants.rolls-Leaf file)) ∙ fold-roll-Plan merging.Plan plan_step (layers.Leaf file)
