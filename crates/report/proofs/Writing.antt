-- A text that is written piece by piece, and the bounds on what is written. Assumes nothing.
use Rattle.std.proofs.Common.{◌≡◌, refl, sym, subst, ◌∙◌, ap, ℕ, zero, suc, add-one, ◌+◌, ◌*◌, ◌≤◌, ◌<◌, List, [], ◌∷◌, ◌++◌, get_or, length, take, drop, arith, append_assoc, append-nil, drop-drop, take-append-drop, length-append, length-take, length-drop, Bor}
use Rattle.std.proofs.lemmas.Slice.{take-put_mid, drop-put_mid}
use Rattle.std.proofs.lemmas.List.Sums.{fold_more, fold-append}
use Rattle.std.specs.List.{fold}
use Rattle.ring.specs.Lists.{joined}
use Rattle.report.specs.Text.{over, field, first_line, board_line, board_lines}
use Rattle.report.proofs.Decimal.{decimal_short}
use borrow.Rule.Slice.PartMut.{put_mid}
use Rattle.report.specs.declared.text.Text.{Text}
use Rattle.report.specs.Writing.{Writes, Fits, fields_text}

-- nothing is written
pub nothing : (t : Text) → Writes [] t t
nothing t = record { longer = omega arith; text = sym (append-nil _); past = refl; room = refl; same_reference = refl }

-- the bytes take the place of as many
pub put : {p ys : List ℕ} {k : ℕ} {old new : Text} → ys ≡ p → k ≡ length p → Fits p old → new.length ≡ old.length + length p → new.buffer.now ≡ put_mid old.length k old.buffer.now ys
    → new.buffer.ghost_name ≡ old.buffer.ghost_name → Writes p old new
put {p} {ys} {k} {old} is many fits longer bytes same =
    let xs = old.buffer.now in record {
      longer = longer;
      text = rw (longer, bytes, is) (take-put_mid old.length k xs p _ refl (omega arith));
      past = rw (longer, bytes, is) (drop-put_mid old.length k xs p (old.length + length p) (omega arith) (omega arith) (sym many) ∙ sym (drop-drop (length p) old.length xs));
      room = rw (bytes, is) (simp (length-append, length-take, length-drop) (omega arith));
      same_reference = same;
    }

-- one piece after another
pub then : {p q : List ℕ} {a b c : Text} → Writes p a b → Writes q b c → Writes (p ++ q) a c
then {p} {q} v w = record {
  longer = simp length-append (omega arith);
  text = rw (w.text, v.text, append_assoc);
  past = rw (w.past, v.past, length-append) (drop-drop (length q) (length p) _);
  room = w.room ∙ v.room;
  same_reference = w.same_reference ∙ v.same_reference;
}

-- a field that is not there
abbrev pub no_field : Bor (List ℕ) × ℕ
no_field = (record { ref_ptr = (0, 0); now = [] }, 0)

-- a field's text
abbrev pub text_of : Bor (List ℕ) × ℕ → List ℕ
text_of f = field f.0.now f.1

-- what is written so far gets no shorter
grows : (text : List ℕ) (fields : List (Bor (List ℕ) × ℕ)) → length text ≤ length (fold (λ t f. t ++ text_of f) text fields)
grows text [] = omega arith
grows text (f ∷ fs) = omega (arith, grows (text ++ text_of f) fs, length-append text (text_of f))

-- one field more
module _ (fields : List (Bor (List ℕ) × ℕ)) (i : ℕ) (here : i < length fields) where
  pub field_more : fields_text (take (i + 1) fields) ≡ fields_text (take i fields) ++ text_of (get_or fields i no_field)
  field_more = fold_more (λ t f. t ++ text_of f) [] fields i no_field here

  pub field_room : length (fields_text (take i fields)) + length (text_of (get_or fields i no_field)) ≤ length (fields_text fields)
  field_room =
      let rest = drop (i + 1) fields in
      let whole = fold-append (λ t f. t ++ text_of f) [] (take (i + 1) fields) rest ∙ ap (λ t. fold (λ t f. t ++ text_of f) t rest) field_more in
      omega (arith, ap length (rw take-append-drop at whole), grows (fields_text (take i fields) ++ text_of (get_or fields i no_field)) rest, length-append {A = ℕ})

-- a line is short
pub first_short : (finish moves tight : ℕ) → length (first_line finish moves tight) ≤ 61
first_short finish moves tight = simp length-append (omega (arith, decimal_short finish, decimal_short moves, decimal_short tight))

pub board_short : (board sends receives : ℕ) → length (board_line board sends receives) ≤ 61
board_short board sends receives = simp length-append (omega (arith, decimal_short board, decimal_short sends, decimal_short receives))

module _ (sends receives : ℕ → ℕ) where
  pub boards_short : (n : ℕ) → length (board_lines sends receives n) ≤ 61 * n
  unfolding joined
  boards_short zero = omega arith
  boards_short (suc n) = omega (arith, boards_short n, board_short n (sends n) (receives n), length-append (board_lines sends receives n) (board_line n (sends n) (receives n)))

  pub boards_more : (n : ℕ) → board_lines sends receives (n + 1) ≡ board_lines sends receives n ++ board_line n (sends n) (receives n)
  unfolding joined
  boards_more n = rw add-one

-- what begins as nothing stands at the front of the buffer
pub at_front : (p : List ℕ) {old new : Text} → Writes p old new → old.length ≡ 0 → (new.length ≡ length p) × (new.buffer.now ≡ over p old.buffer.now)
at_front p {old} {new} w e =
    let text = rw e at w.text in
    let past = rw e at w.past in
    (omega (arith, w.longer), sym (take-append-drop new.length new.buffer.now) ∙ ap (λ t. t ++ drop new.length new.buffer.now) text ∙ ap (λ t. p ++ t) past)

-- the same text said otherwise
pub said : {p q : List ℕ} {old new : Text} → p ≡ q → Writes p old new → Writes q old new
said {old = old} {new = new} e w = subst (λ t. Writes t old new) e w
