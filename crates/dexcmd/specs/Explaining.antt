-- More of the lines of a report: the reason of each device that failed, and of each refusal its meaning and remedy,
-- also of those on standard output. This project's rules.
use Rattle.std.specs.Prelude.{◌≡◌, ◌⊎◌, ℕ, Bool, List, [], ◌∷◌, ◌++◌, map, Option, Some, None, Result, Ok, Err}
use Rattle.std.specs.Prelude.{if◌then◌else◌, nat_lt, length, slice_index_or, is_some, option_map, codes, string_bytes}
use Rattle.std.specs.List.{flat_map}
use Rattle.dexruns.specs.Lines.{condition_text}
use Rattle.dexruns.specs.Conditions.{condition_numbers}
use Rattle.dexcmd.specs.declared.device_error.DeviceError.{DeviceError}
use Rattle.dexcmd.specs.declared.explaining.Reasons.{Reasons}
use Rattle.dexcmd.specs.declared.explaining.Remedies.{Remedies}
use Rattle.dexcmd.specs.declared.outcome_report.LineKind.{LineKind}
use Rattle.dexcmd.specs.declared.outcome_report.LineKind.TheVariants.{Unread, Unwritten, Refused, Other}
use Rattle.dexcmd.specs.declared.outcome_report.Report.{Report}
use Rattle.dexcmd.specs.Reports.{IsReport}

-- a reason was added for an error, and nothing without one; its text is the system's
abbrev pub IsReasonAdded : Option DeviceError → List (List ℕ) → List (List ℕ) → Type 0
IsReasonAdded None old new = new ≡ old
IsReasonAdded (Some error) old new = (reason : List ℕ) × (new ≡ old ++ reason ∷ [])

-- what the first line is about
abbrev pub first_kind : List LineKind → LineKind
first_kind [] = Other
first_kind (kind ∷ kinds) = kind

-- what the lines after it are about
abbrev pub later_kinds : List LineKind → List LineKind
later_kinds [] = []
later_kinds (kind ∷ kinds) = kinds

-- the first of some reasons
abbrev pub first_reason : List (List ℕ) → Option (List ℕ)
first_reason [] = None
first_reason (reason ∷ reasons) = Some reason

-- the reasons after it
abbrev pub later_reasons : List (List ℕ) → List (List ℕ)
later_reasons [] = []
later_reasons (reason ∷ reasons) = reasons

-- the reason of a line: the next one of an input that cannot be read, or that of the output that cannot be written
abbrev pub reason_of : LineKind → List (List ℕ) → Option (List ℕ) → Option (List ℕ)
reason_of Unread unread unwritten = first_reason unread
reason_of Unwritten unread unwritten = unwritten
reason_of (Refused number) unread unwritten = None
reason_of Other unread unwritten = None

-- the reasons of inputs that are left for the lines after it
abbrev pub reasons_after : LineKind → List (List ℕ) → List (List ℕ)
reasons_after Unread unread = later_reasons unread
reasons_after Unwritten unread = unread
reasons_after (Refused number) unread = unread
reasons_after Other unread = unread

-- the note of a line about a refused file: that with the number of its condition
abbrev pub note_of : LineKind → List (List ℕ) → Option (List ℕ)
note_of Unread notes = None
note_of Unwritten notes = None
note_of (Refused number) notes = if nat_lt number (length notes) then Some (slice_index_or notes number []) else None
note_of Other notes = None

-- a line with its reason
abbrev pub line_with : List ℕ → Option (List ℕ) → List ℕ
line_with line None = line
line_with line (Some reason) = line ++ (codes ": " ++ reason)

-- the line of a note
abbrev pub note_lines : Option (List ℕ) → List (List ℕ)
note_lines None = []
note_lines (Some note) = (codes "  " ++ note) ∷ []

-- the notes of a line: what its condition means, and what to do
abbrev pub notes_of : List (List ℕ) → List (List ℕ) → LineKind → List (List ℕ)
notes_of meanings remedies kind = note_lines (note_of kind meanings) ++ note_lines (note_of kind remedies)

-- the lines of a condition: that files are refused by it, what that means, and what to do
abbrev pub condition_lines : List (List ℕ) → List (List ℕ) → ℕ → List (List ℕ)
condition_lines meanings remedies number =
    (codes "dexkit: " ++ condition_text number) ∷ notes_of meanings remedies (Refused number)

-- the lines of the conditions of a set, in the order of their numbers
abbrev pub noted_lines : List (List ℕ) → List (List ℕ) → List Bool → List (List ℕ)
noted_lines meanings remedies conditions = flat_map (condition_lines meanings remedies) (condition_numbers conditions)

-- what lines become
abbrev pub explained_lines : List (List ℕ) → List (List ℕ) → Option (List ℕ) → List (List ℕ) → List (List ℕ)
    → List LineKind → List (List ℕ)
explained_lines meanings remedies unwritten unread [] kinds = []
explained_lines meanings remedies unwritten unread (line ∷ lines) kinds =
    line_with line (reason_of (first_kind kinds) unread unwritten) ∷ (notes_of meanings remedies (first_kind kinds)
    ++ explained_lines meanings remedies unwritten (reasons_after (first_kind kinds) unread) lines (later_kinds kinds))

-- the report has the lines of the plain one with these reasons and remedies, and those of its conditions
abbrev pub IsExplained : Remedies → Reasons → Report → Report → Type 0
IsExplained remedies reasons plain said =
    IsReport plain.status
    (explained_lines (map (λ text. text.now) remedies.meanings.now) (map (λ text. text.now) remedies.remedies.now)
    (option_map string_bytes reasons.unwritten) (map string_bytes reasons.unread.items)
    (map string_bytes plain.lines.items) plain.kinds.items
    ++ noted_lines (map (λ text. text.now) remedies.meanings.now) (map (λ text. text.now) remedies.remedies.now)
    plain.conditions) said

-- the report is explained if there are reasons, or is the plain one
abbrev pub IsExplainedOrPlain : {E : Type 0} → Remedies → Result Reasons E → Report → Report → Type 0
IsExplainedOrPlain remedies (Ok reasons) plain said = (said ≡ plain) ⊎ IsExplained remedies reasons plain said
IsExplainedOrPlain remedies (Err error) plain said = said ≡ plain

-- these are texts for the errors, in their order
abbrev pub AreTextsOf : List (Option DeviceError) → List (List ℕ) → Type 0
AreTextsOf [] texts = texts ≡ []
AreTextsOf (None ∷ errors) texts = AreTextsOf errors texts
AreTextsOf (Some error ∷ errors) [] = ⊥
AreTextsOf (Some error ∷ errors) (text ∷ texts) = AreTextsOf errors texts

-- the reasons are those of inputs that keep these errors, in their order, and of an output that keeps the other; their
-- texts are the system's
pub record AreReasonsOf (unread : List (Option DeviceError)) (unwritten : Option DeviceError) (reasons : Reasons) :
    Type 0 where
  pub of_inputs : AreTextsOf unread (map string_bytes reasons.unread.items)
  pub of_output : is_some reasons.unwritten ≡ is_some unwritten
