use Rattle.dexspec.proofs.Common.{◌<◌, ◌^◌, ℕ, List, All}
use Rattle.dexspec.specs.Sections.{Section}
use Rattle.dexspec.proofs.layout.MapEntries.{IsSmall}
use Rattle.dexspec.proofs.layout.PlainHeaders.{map_is_at}
use Rattle.dexlaws.proofs.frame.map_law.Goals as goal

-- numbers that fit four bytes, entry by entry
small : (es : List (Section × ℕ × ℕ)) → All (λ e. (e.1 < 2 ^ 32) × (e.2 < 2 ^ 32)) es → All IsSmall es
small es h = λ k d lt. let p = h k d lt in record { count = p.0; place = p.1 }

pub returns : goal.returns
returns c = record { count = λ b o es few h s. (map_is_at b o es few (small es h) s).0; entries = λ b o es few h s. (map_is_at b o es few (small es h) s).1 }
