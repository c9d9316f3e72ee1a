-- Inner: cited by the contracts of the report's inner functions only. What the report promises is in Report and Text.
-- A text that is being written: its bytes stand at the front of the lent buffer, and what lies past them is as it was.
use Rattle.std.specs.Prelude.{◌≡◌, List, [], ◌++◌, ℕ, ◌+◌, ◌≤◌, length, take, drop}
use Rattle.std.specs.List.{fold}
use denote.Ref.{Bor}
use Rattle.report.specs.declared.text.Text.{Text}
use Rattle.report.specs.Text.{field}

-- p was written after what stood there
pub record Writes (p : List ℕ) (old new : Text) : Type 0 where
  pub longer : new.length ≡ old.length + length p
  pub text : take new.length new.buffer.now ≡ take old.length old.buffer.now ++ p
  pub past : drop new.length new.buffer.now ≡ drop (length p) (drop old.length old.buffer.now)
  pub room : length new.buffer.now ≡ length old.buffer.now
  pub same_reference : new.buffer.ghost_name ≡ old.buffer.ghost_name

-- p has room
abbrev pub Fits : List ℕ → Text → Type 0
Fits p t = t.length + length p ≤ length t.buffer.now

-- words, each with the number after it, one after another
abbrev pub fields_text : List (Bor (List ℕ) × ℕ) → List ℕ
fields_text fields = fold (λ text f. text ++ field f.0.now f.1) [] fields
