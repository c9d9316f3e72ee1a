-- No two answers, and no two states of a lent buffer, fit the contract of an exported function. Assumes nothing.
use mathlib.Core.Path.{◌≡◌, sym, ◌∙◌}
use borrow.Fn.Kinds.{Dens, res_t, ended_of}
use contract.Lifetimes.{Lfts}
use denote.Triple.Clauses.{AtExit}
use mir.Syntax.{Dict}
use denote.RattleType.{RattleType}
use denote.Param.Laws.{Laws}
use Rattle.hop.proofs.refusals.Refusal.number.Kinds as number
use Rattle.hop.proofs.refusals.Refusal.number.Reads as number-said
use Rattle.hop.proofs.refusals.Refusal.board.Kinds as board
use Rattle.hop.proofs.refusals.Refusal.board.Reads as board-said
use Rattle.hop.proofs.refusals.number.Kinds as number-if
use Rattle.hop.proofs.refusals.number.Reads as number-if-said
use Rattle.hop.proofs.refusals.board.Kinds as board-if
use Rattle.hop.proofs.refusals.board.Reads as board-if-said
use Rattle.hop.proofs.kinds.KindTryFromU8.try_from.Kinds as kind-of
use Rattle.hop.proofs.kinds.KindTryFromU8.try_from.Reads as kind-of-said
use Rattle.hop.proofs.kinds.Kind.number.Kinds as kind
use Rattle.hop.proofs.kinds.Kind.number.Reads as kind-said
use Rattle.hop.proofs.job_length.Kinds as job-length
use Rattle.hop.proofs.job_length.Reads as job-length-said
use Rattle.hop.proofs.reader.checked.Kinds as checked
use Rattle.hop.proofs.reader.checked.Reads as checked-said
use Rattle.hop.proofs.reader.numbers_of.Kinds as numbers-of
use Rattle.hop.proofs.reader.numbers_of.Reads as numbers-of-said
use Rattle.hop.proofs.reader.numbers_into.Kinds as numbers-into
use Rattle.hop.proofs.reader.numbers_into.Reads as numbers-into-said
use Rattle.hop.proofs.reader.read.Kinds as read
use Rattle.hop.proofs.reader.read.Reads as read-said
use Rattle.hop.proofs.reader.read_into.Kinds as read-into
use Rattle.hop.proofs.reader.read_into.Reads as read-into-said
use Rattle.hop.proofs.writer.write.Kinds as write
use Rattle.hop.proofs.writer.write.Reads as write-said

-- of each: lifetimes, the arguments, two answers, and what is lent as the function returns
pub one_refusal_number : (κs : Lfts 0) (a : Dens κs number.ps) (x y : (res_t number.r κs).Denot) (s t : AtExit (ended_of 0 number.ps number.r) κs)
    → number-said.Post κs a x s → number-said.Post κs a y t → x ≡ y
one_refusal_number κs a x y s t p q = p ∙ sym q

pub one_refusal_board : (κs : Lfts 0) (a : Dens κs board.ps) (x y : (res_t board.r κs).Denot) (s t : AtExit (ended_of 0 board.ps board.r) κs)
    → board-said.Post κs a x s → board-said.Post κs a y t → x ≡ y
one_refusal_board κs a x y s t p q = p ∙ sym q

pub one_kind : (κs : Lfts 0) (a : Dens κs kind.ps) (x y : (res_t kind.r κs).Denot) (s t : AtExit (ended_of 0 kind.ps kind.r) κs)
    → kind-said.Post κs a x s → kind-said.Post κs a y t → x ≡ y
one_kind κs a x y s t p q = p ∙ sym q

pub one_kind_of : (κs : Lfts 0) (a : Dens κs kind-of.ps) (x y : (res_t kind-of.r κs).Denot) (s t : AtExit (ended_of 0 kind-of.ps kind-of.r) κs)
    → kind-of-said.Post κs a x s → kind-of-said.Post κs a y t → x ≡ y
one_kind_of κs a x y s t p q = p ∙ sym q

pub one_job_length : (κs : Lfts 0) (a : Dens κs job-length.ps) (x y : (res_t job-length.r κs).Denot) (s t : AtExit (ended_of 0 job-length.ps job-length.r) κs)
    → job-length-said.Post κs a x s → job-length-said.Post κs a y t → x ≡ y
one_job_length κs a x y s t p q = p ∙ sym q

pub one_checked : (κs : Lfts 1) (a : Dens κs checked.ps) (x y : (res_t checked.r κs).Denot) (s t : AtExit (ended_of 1 checked.ps checked.r) κs)
    → checked-said.Post κs a x s → checked-said.Post κs a y t → x ≡ y
one_checked κs a x y s t p q = p ∙ sym q

pub one_numbers_of : (κs : Lfts 1) (a : Dens κs numbers-of.ps) (x y : (res_t numbers-of.r κs).Denot) (s t : AtExit (ended_of 1 numbers-of.ps numbers-of.r) κs)
    → numbers-of-said.Post κs a x s → numbers-of-said.Post κs a y t → x ≡ y
one_numbers_of κs a x y s t p q = p ∙ sym q

pub one_numbers_into : (κs : Lfts 2) (a : Dens κs numbers-into.ps) (x y : (res_t numbers-into.r κs).Denot) (s t : AtExit (ended_of 2 numbers-into.ps numbers-into.r) κs)
    → numbers-into-said.Post κs a x s → numbers-into-said.Post κs a y t → s.1.1.0.now ≡ t.1.1.0.now
one_numbers_into κs a x y s t p q = p ∙ sym q

pub one_read : (κs : Lfts 1) (a : Dens κs read.ps) (x y : (res_t read.r κs).Denot) (s t : AtExit (ended_of 1 read.ps read.r) κs)
    → read-said.Post κs a x s → read-said.Post κs a y t → x ≡ y
one_read κs a x y s t p q = p ∙ sym q

pub one_read_into : (κs : Lfts 2) (a : Dens κs read-into.ps) (x y : (res_t read-into.r κs).Denot) (s t : AtExit (ended_of 2 read-into.ps read-into.r) κs)
    → read-into-said.Post κs a x s → read-into-said.Post κs a y t → s.1.0.now ≡ t.1.0.now
one_read_into κs a x y s t p q = p ∙ sym q

pub one_write : (κs : Lfts 4) (a : Dens κs write.ps) (x y : (res_t write.r κs).Denot) (s t : AtExit (ended_of 4 write.ps write.r) κs)
    → write-said.Post κs a x s → write-said.Post κs a y t → (x ≡ y) × (s.1.1.1.1.0.now ≡ t.1.1.1.1.0.now)
one_write κs a x y s t p q = (p.0 ∙ sym q.0, p.1 ∙ sym q.1)

-- the same of every type of success
pub one_number : (T : RattleType) (l : Laws T) (d : Dict) (κs : Lfts 1) (a : Dens κs (number-if.ps T l)) (x y : (res_t (number-if.r T l) κs).Denot) (s t : AtExit (ended_of 1 (number-if.ps T l) (number-if.r T l)) κs)
    → number-if-said.Post T l d κs a x s → number-if-said.Post T l d κs a y t → x ≡ y
one_number T l d κs a x y s t p q = p ∙ sym q

pub one_board : (T : RattleType) (l : Laws T) (d : Dict) (κs : Lfts 1) (a : Dens κs (board-if.ps T l)) (x y : (res_t (board-if.r T l) κs).Denot) (s t : AtExit (ended_of 1 (board-if.ps T l) (board-if.r T l)) κs)
    → board-if-said.Post T l d κs a x s → board-if-said.Post T l d κs a y t → x ≡ y
one_board T l d κs a x y s t p q = p ∙ sym q
