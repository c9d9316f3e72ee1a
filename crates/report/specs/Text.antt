-- Document 01, "The program": the lines that it prints, as bytes.
use Rattle.std.specs.Prelude.{List, [], ◌∷◌, ◌++◌, ℕ, zero, suc, ◌+◌, ◌/◌, ◌%◌, ltb, length, drop}
use Prim.Native.Char.{code}
use Prim.Native.String.{String, [] as empty, ◌∷◌ as ◌then◌}
use Rattle.ring.specs.Numbers.{pick}
use Rattle.ring.specs.Lists.{joined}

-- a buffer with a text in the place of its first bytes
abbrev pub over : List ℕ → List ℕ → List ℕ
over text xs = text ++ drop (length text) xs

-- the bytes of a text
abbrev pub ascii : String → List ℕ
ascii empty = []
ascii (c then s) = code c ∷ ascii s

-- the last k digits of n, fewer where n has fewer
unfoldable pub digits : ℕ → ℕ → List ℕ
digits zero n = []
digits (suc k) n = pick (ltb n 10) [] (digits k (n / 10)) ++ (48 + n % 10) ∷ []

-- a number in decimal: ten digits are enough for 32 bits
unfoldable pub decimal : ℕ → List ℕ
decimal n = digits 10 n

-- a word, and a number after it
abbrev pub field : List ℕ → ℕ → List ℕ
field word n = word ++ decimal n

-- the first line of an answer
abbrev pub first_line : ℕ → ℕ → ℕ → List ℕ
first_line finish moves tight =
    field (ascii "finish ") finish ++ field (ascii " moves ") moves ++ field (ascii " tight ") tight ++ ascii "\n"

-- the line of a board
abbrev pub board_line : ℕ → ℕ → ℕ → List ℕ
board_line board sends receives =
    field (ascii "board ") board ++ field (ascii " sends ") sends ++ field (ascii " receives ") receives ++ ascii "\n"

-- the lines of boards 0 .. n - 1
abbrev pub board_lines : (ℕ → ℕ) → (ℕ → ℕ) → ℕ → List ℕ
board_lines sends receives n = joined (λ b. board_line b (sends b) (receives b)) n

-- the line of a refusal
abbrev pub refusal_line : ℕ → ℕ → List ℕ
refusal_line number board = field (ascii "refused ") number ++ field (ascii " board ") board ++ ascii "\n"
