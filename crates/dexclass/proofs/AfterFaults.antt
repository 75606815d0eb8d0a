-- What holds after a fault of a class row.
use Rattle.dexclass.proofs.Common.{ℕ, List, inl, inr, sym, subst, ItemFault, Refused, Memory}
use Rattle.dexpool.specs.declared.faults.ItemFault.TheVariants as items
use Rattle.dexids.specs.declared.faults.ReadFault.{ReadFault}
use Rattle.dexmembers.specs.TooHeavy as members
use Rattle.dexclass.specs.internal.Checked.{IsFaultAtRow}
use Rattle.dexclass.specs.{IsFaultOf}
use Rattle.dexclass.specs.internal.ReadWithin.{IsFaultWithin, IfTooHeavy}

-- a row is too heavy if what it declares is
pub at_row_heavy : (P : Type 0) (r : ℕ) (declared : ItemFault) (fault : ReadFault) → IsFaultAtRow declared r fault → members.IfTooHeavy P declared → IfTooHeavy P fault
at_row_heavy P r items.Memory fault is h = subst (IfTooHeavy P) (sym is) tt
at_row_heavy P r (items.Refused n) fault is h = subst (IfTooHeavy P) (sym is) h

-- a fault of a reader within a limit is one of the file, if it is another than that something is too heavy
pub file_refused : (b : List ℕ) (limit : ℕ) (fault : ReadFault) → IfTooHeavy ⊥ fault → IsFaultWithin limit b fault → IsFaultOf b fault
file_refused b limit Memory other h = tt
file_refused b limit (Refused r) other (inl h) = h
file_refused b limit (Refused r) other (inr h) = absurd (other h.0)
