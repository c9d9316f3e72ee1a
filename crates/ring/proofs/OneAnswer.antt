-- No two answers fit the contract of an exported function. Assumes nothing.
use mathlib.Core.Path.{◌≡◌, sym, ◌∙◌}
use borrow.Fn.Kinds.{Dens, res_t, ended_of}
use contract.Lifetimes.{Lfts}
use denote.Triple.Clauses.{AtExit}
use Rattle.ring.proofs.link_time.Kinds as link-time
use Rattle.ring.proofs.link_time.Reads as link-time-said
use Rattle.ring.proofs.end_of.Kinds as end-of
use Rattle.ring.proofs.end_of.Reads as end-of-said
use Rattle.ring.proofs.quad.Kinds as quad
use Rattle.ring.proofs.quad.Reads as quad-said
use Rattle.ring.proofs.Board.new.Kinds as new
use Rattle.ring.proofs.Board.new.Reads as new-said
use Rattle.ring.proofs.fault.Kinds as fault
use Rattle.ring.proofs.fault.Reads as fault-said
use Rattle.ring.proofs.Outside.number.Kinds as number
use Rattle.ring.proofs.Outside.number.Reads as number-said

-- of each: lifetimes, the arguments, two answers, and what is lent as the function returns
pub one_link_time : (κs : Lfts 0) (a : Dens κs link-time.ps) (x y : (res_t link-time.r κs).Denot) (s t : AtExit (ended_of 0 link-time.ps link-time.r) κs)
    → link-time-said.Post κs a x s → link-time-said.Post κs a y t → x ≡ y
one_link_time κs a x y s t p q = λ i. record { 0 = (p ∙ sym q) i }

pub one_new : (κs : Lfts 0) (a : Dens κs new.ps) (x y : (res_t new.r κs).Denot) (s t : AtExit (ended_of 0 new.ps new.r) κs)
    → new-said.Post κs a x s → new-said.Post κs a y t → x ≡ y
one_new κs a x y s t p q = p ∙ sym q

pub one_number : (κs : Lfts 0) (a : Dens κs number.ps) (x y : (res_t number.r κs).Denot) (s t : AtExit (ended_of 0 number.ps number.r) κs)
    → number-said.Post κs a x s → number-said.Post κs a y t → x ≡ y
one_number κs a x y s t p q = p ∙ sym q

pub one_fault : (κs : Lfts 0) (a : Dens κs fault.ps) (x y : (res_t fault.r κs).Denot) (s t : AtExit (ended_of 0 fault.ps fault.r) κs)
    → fault-said.Post κs a x s → fault-said.Post κs a y t → x ≡ y
one_fault κs a x y s t p q = p ∙ sym q

pub one_end_of : (κs : Lfts 0) (a : Dens κs end-of.ps) (x y : (res_t end-of.r κs).Denot) (s t : AtExit (ended_of 0 end-of.ps end-of.r) κs)
    → end-of-said.Post κs a x s → end-of-said.Post κs a y t → x ≡ y
one_end_of κs a x y s t p q = λ i. record { 0 = (p ∙ sym q) i }

pub one_quad : (κs : Lfts 0) (a : Dens κs quad.ps) (x y : (res_t quad.r κs).Denot) (s t : AtExit (ended_of 0 quad.ps quad.r) κs)
    → quad-said.Post κs a x s → quad-said.Post κs a y t → x ≡ y
one_quad κs a x y s t p q = p ∙ sym q
