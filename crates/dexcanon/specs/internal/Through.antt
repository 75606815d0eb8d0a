-- What a writer has taken through an output.
use Rattle.std.specs.Prelude.{ℕ, List, ◌++◌}
use Rattle.dexcanon.specs.declared.contents.Contents.{Contents}
use Rattle.dexout.specs.declared.faults.StoreFault.{StoreFault}
use Rattle.dexout.specs.declared.output.Out.{Out}
use Rattle.dexout.specs.declared.writer.Writer.{Writer}
use Rattle.dexout.specs.Written.{HasTaken, HasLeft}
use Rattle.dexcanon.specs.internal.Adding.{after_header_of}

-- what was buffered, and what follows the header
abbrev pub rest_of : {W : Type 0} → Contents → Out (Writer W) → List ℕ
rest_of c out = out.buffer.items ++ after_header_of c

-- the writer has taken them
abbrev pub HasTakenRest : {W : Type 0} → (W → Type 0) → (W → List ℕ) → Contents → Out (Writer W) → Out (Writer W)
    → Type 0
HasTakenRest reports taken c old new = HasTaken reports taken old.target.sink.now new.target.sink.now (rest_of c old)

-- it is left so after a fault
abbrev pub HasLeftRest : {W : Type 0} → (W → Type 0) → (W → List ℕ) → Contents → Out (Writer W) → Out (Writer W)
    → StoreFault → Type 0
HasLeftRest reports taken c old new =
    HasLeft (reports old.target.sink.now) old.target.sink.now new.target.sink.now taken (rest_of c old)
