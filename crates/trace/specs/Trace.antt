-- A recorder's trace, all in little-endian numbers of four bytes (`word_at`): a table of contents, what is allowed in it, and the bodies. Request A9.
use Rattle.std.specs.Prelude.{ℕ, zero, suc, ◌+◌, ◌*◌, ◌/◌, ◌%◌, List, Bool, true, ◌&&◌, leb, eqb, length, take, drop}
use Rattle.isa.specs.Bytes.{word_at}
use Rattle.isa.specs.File.{legal}

-- ---- the table of contents: the number of cases, then for each case its length in bits, its word count and its body's start

abbrev pub cases_of : List ℕ → ℕ
cases_of t = word_at t 0

abbrev pub length_at : List ℕ → ℕ → ℕ
length_at t k = word_at t (4 + 12 * k)

abbrev pub count_at : List ℕ → ℕ → ℕ
count_at t k = word_at t (8 + 12 * k)

abbrev pub start_at : List ℕ → ℕ → ℕ
start_at t k = word_at t (12 + 12 * k)

abbrev pub contents_size : List ℕ → ℕ
contents_size t = 4 + 12 * cases_of t

-- ---- the bodies

-- QC before, file before, words, QC after, file after
abbrev pub body_size : ℕ → ℕ → ℕ
body_size L W = 8 + 8 * L + 4 * W

-- where body k has to start: at the end of the body before it, and the first at the end of the contents
unfoldable pub begins : List ℕ → ℕ → ℕ
begins t zero = contents_size t
begins t (suc k) = begins t k + body_size (length_at t k) (count_at t k)

-- the end of the last body
abbrev pub total_of : List ℕ → ℕ
total_of t = begins t (cases_of t)

-- the bytes of body k
unfoldable pub body_of : List ℕ → ℕ → List ℕ
body_of t k = take (body_size (length_at t k) (count_at t k)) (drop (start_at t k) t)

-- ---- what is allowed

-- case k's length, word count and start
abbrev pub field_allowed : ℕ → List ℕ → ℕ → Bool
field_allowed zero t k = legal (length_at t k)
field_allowed (suc zero) t k = leb (count_at t k) 4096
field_allowed (suc (suc f)) t k = eqb (start_at t k) (begins t k)

-- number i of the contents: the number of cases, then three for each case
unfoldable pub number_allowed : List ℕ → ℕ → Bool
number_allowed t zero = leb 1 (cases_of t) && leb (cases_of t) 1024
number_allowed t (suc j) = field_allowed (j % 3) t (j / 3)

-- the first n of them
unfoldable pub allowed : List ℕ → ℕ → Bool
allowed t zero = true
allowed t (suc n) = allowed t n && number_allowed t n

-- the contents are whole, and all their numbers are allowed
unfoldable pub contents_allowed : List ℕ → Bool
contents_allowed t = leb (contents_size t) (length t) && allowed t (1 + 3 * cases_of t)

-- the trace is not longer than 64 KiB, and as long as its contents say
abbrev pub total_allowed : List ℕ → Bool
total_allowed t = leb (length t) 65536 && eqb (length t) (total_of t)
