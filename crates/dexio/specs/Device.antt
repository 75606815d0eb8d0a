-- what a Device holds
use Rattle.std.specs.Prelude.{ℕ, Bool}
use Rattle.dexio.specs.declared.device.Device.{Device}

-- what is inside a device
abbrev pub inner_of : {T : Type 0} → Device T → T
inner_of d = d.inner

-- whether a call of the device returned DeviceFault
abbrev pub is_broken : {T : Type 0} → Device T → Bool
is_broken d = d.is_broken

-- how many bytes are expected of a device
abbrev pub expected_of : {T : Type 0} → Device T → ℕ
expected_of d = d.expected
