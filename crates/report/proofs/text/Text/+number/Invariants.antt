-- `Text::number`: the measure is the number.
use Rattle.report.proofs.text.Text.+number.Given as goal

abbrev pub decreases-number : goal.decreases-number
decreases-number l = l.n
