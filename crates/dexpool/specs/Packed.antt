-- Numbers of 32 bits, one of which denotes none.
use Rattle.std.specs.Prelude.{ℕ, Option, Some, None, if◌then◌else◌, ◌==◌}

-- the image that a stored number is
abbrev pub image_in : ℕ → Option ℕ
image_in n = if n == 0xffffffff then None else Some n
