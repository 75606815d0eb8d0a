-- A job over the devices of its names. This project's rules.
use Rattle.std.specs.Prelude.{◌≡◌, ◌≢◌, ◌⊎◌, ℕ, Bool, true, false, List, map, Option, Some, None}
use Rattle.std.specs.Borrow.{Bor}
use Rattle.std.specs.List.{AllZip}
use Rattle.dexargs.specs.declared.words.Job.{Job}
use Rattle.dexargs.specs.declared.words.Placing.{Placing}
use Rattle.dexcmd.specs.declared.device_error.DeviceError.{DeviceError}
use Rattle.dexcmd.specs.declared.explaining.Reasons.{Reasons}
use Rattle.dexcmd.specs.declared.explaining.Remedies.{Remedies}
use Rattle.dexcmd.specs.declared.outcome_report.Report.{Report}
use Rattle.dexcmd.specs.Explaining.{IsExplained, AreReasonsOf}
use Rattle.dexcmd.specs.Jobs.{IsFinished, WritesAtTheEnd}
use Rattle.dexcmd.specs.Names.{input_names, output_name, placing}

-- the report is explained with the reasons of these errors
pub record IsExplainedBy (unread : List (Option DeviceError)) (unwritten : Option DeviceError) (remedies : Remedies)
    (plain said : Report) : Type 0 where
  pub reasons : Reasons
  pub reasons_are : AreReasonsOf unread unwritten reasons
  pub explained : IsExplained remedies reasons plain said

-- the report is the plain one; with remedies it is explained if there is memory for that
abbrev pub IsSaidAs : List (Option DeviceError) → Option DeviceError → Option (Bor Remedies) → Report → Report → Type 0
IsSaidAs unread unwritten None plain said = said ≡ plain
IsSaidAs unread unwritten (Some remedies) plain said =
    (said ≡ plain) ⊎ IsExplainedBy unread unwritten remedies.now plain said

module _ {In Out : Type 0} (is_input : List ℕ → In → Type 0) (is_output : Option (List ℕ) → Placing → Out → Type 0)
    (error_of : In → Option DeviceError) (output_error : Out → Option DeviceError) (is_closed is_placed : Out → Bool)
    (reports : In → Type 0) (to_come : In → List ℕ) (expected_len : In → ℕ) (reader_failed : In → Bool)
    (writes : Out → Type 0) (taken : Out → List ℕ) (writer_failed : Out → Bool) where
  -- the job was done and finished over the devices of its names, and this is its report
  pub record IsRunByName (remedies : Option (Bor Remedies)) (job : Job) (said : Report) : Type 0 where
    pub inputs : List In
    pub left : List In
    pub out : Out
    pub finished : Out
    pub plain : Report
    pub inputs_named : AllZip is_input (input_names job) inputs
    pub output_named : is_output (output_name job) (placing job) out
    pub is_finished : IsFinished is_closed is_placed reports to_come expected_len reader_failed writes taken
        writer_failed inputs left out finished job plain
    pub unwritten : WritesAtTheEnd job → plain.status ≢ 0 → writer_failed finished ≡ false → finished ≡ out
    pub placed : plain.status ≡ 0 → is_placed finished ≡ true
    pub unplaced : WritesAtTheEnd job → plain.status ≢ 0 → is_placed out ≡ false → is_placed finished ≡ false
    pub said_as : IsSaidAs (map error_of left) (output_error finished) remedies plain said
