-- Worked examples, computed.
use mathlib.Core.Path.{◌≡◌, refl}
use Rattle.isa.specs.declared.types.Size.{Size}
use Rattle.isa.specs.declared.types.Rotation.{Rotation}
use Rattle.isa.specs.declared.types.Form.{Form}
use Rattle.isa.specs.declared.types.Group.{Group}
use Rattle.isa.specs.declared.types.Op.{Op}
use Rattle.isa.specs.Encode.{answer, write_checks, encode_of}
use Rattle.std.specs.Prelude.{Ok, Err}
use Rattle.isa.specs.declared.types.WriteRefusal.{WriteRefusal}
use Rattle.grammar.specs.Template.{decimal}
use Rattle.grammar.specs.Follow.{common_prefix, place_of, place_of_tens, tens, one_digit, two_digits, guess_number, starting_with, guess_text, follow}
use Rattle.grammar.specs.Search.{search}
use Rattle.grammar.specs.Grammar.{ascii, variables, pattern_of, values_of, line_of}
use Rattle.grammar.specs.declared.types.LineRefusal.{LineRefusal}
use Rattle.grammar.specs.Read.{stops_at, read_of}
use Rattle.grammar.specs.Write.{line_answer, write_of}

sqcadd : read_of (ascii "SQCADD Z3.H, Z3.H, Z5.H, #270") ≡ Ok (Op.Sqcadd (record { size = Size.H; zm = 5; zdn = 3; rot = Rotation.R270 }))
unfolding read_of search follow variables common_prefix decimal place_of place_of_tens tens one_digit two_digits guess_number starting_with guess_text
sqcadd = refl

other-register : read_of (ascii "SQCADD Z3.H, Z4.H, Z5.H, #270") ≡ stops_at 14
unfolding read_of search follow variables common_prefix decimal place_of place_of_tens tens one_digit two_digits guess_number starting_with guess_text
other-register = refl

-- A1's three lines
indexed-line : line_of (Op.SqrdcmlahIndexed (record { size = Size.H; zm = 2; index = 3; zn = 1; zda = 0; rot = Rotation.R90 })) ≡ ascii "SQRDCMLAH Z0.H, Z1.H, Z2.H[3], #90"
unfolding line_of pattern_of values_of variables decimal
indexed-line = refl

vector_line : line_of (Op.Sqrdmlsh (record { size = Size.H; rm = 2; index = 7; rn = 1; rd = 0; form = Form.Vector64 })) ≡ ascii "SQRDMLSH V0.4H, V1.4H, V2.H[7]"
unfolding line_of pattern_of values_of variables decimal
vector_line = refl

scalar-line : line_of (Op.Sqrdmlsh (record { size = Size.H; rm = 2; index = 7; rn = 1; rd = 0; form = Form.Scalar })) ≡ ascii "SQRDMLSH H0, H1, V2.H[7]"
unfolding line_of pattern_of values_of variables decimal
scalar-line = refl

-- A3's line; and one of the four registers from 28 on, the longest
group-line : line_of (Op.Sqdmulh (record { size = Size.H; zm = 2; zdn = 0; group = Group.Two })) ≡ ascii "SQDMULH { Z0.H-Z1.H }, { Z0.H-Z1.H }, Z2.H"
unfolding line_of pattern_of values_of variables decimal
group-line = refl

group-read : read_of (ascii "SQDMULH { Z28.D-Z31.D }, { Z28.D-Z31.D }, Z15.D") ≡ Ok (Op.Sqdmulh (record { size = Size.D; zm = 15; zdn = 28; group = Group.Four }))
unfolding read_of search follow variables common_prefix decimal place_of place_of_tens tens one_digit two_digits guess_number starting_with guess_text
group-read = refl

-- no group starts at register 5, and none has three registers; a group of two that starts at 3 is refused with 14, before the room
odd-start : read_of (ascii "SQDMULH { Z5.H-Z6.H }, { Z5.H-Z6.H }, Z2.H") ≡ stops_at 11
unfolding read_of search follow variables common_prefix decimal place_of place_of_tens tens one_digit two_digits guess_number starting_with guess_text
odd-start = refl

three-registers : read_of (ascii "SQDMULH { Z4.H-Z6.H }, { Z4.H-Z6.H }, Z2.H") ≡ stops_at 16
unfolding read_of search follow variables common_prefix decimal place_of place_of_tens tens one_digit two_digits guess_number starting_with guess_text
three-registers = refl

group_start : line_answer (Op.Sqdmulh (record { size = Size.H; zm = 2; zdn = 3; group = Group.Two })) 0 ≡ Err (LineRefusal.Word WriteRefusal.GroupStart)
unfolding line_answer encode_of answer write_checks
group_start = refl

-- the line has 24 bytes: room for 24 is enough, and behind it the buffer is as it was; room for 23 is not
written : write_of (Op.Sqrdmlsh (record { size = Size.H; rm = 2; index = 7; rn = 1; rd = 0; form = Form.Scalar })) (ascii "..........................") ≡ record { answer = Ok 24; out = ascii "SQRDMLSH H0, H1, V2.H[7].." }
unfolding write_of line_answer encode_of answer write_checks line_of pattern_of values_of variables decimal
written = refl

short-room : line_answer (Op.Sqrdmlsh (record { size = Size.H; rm = 2; index = 7; rn = 1; rd = 0; form = Form.Scalar })) 23 ≡ Err LineRefusal.Room
unfolding line_answer encode_of answer write_checks line_of pattern_of values_of variables decimal
short-room = refl

-- the index is too large, and there is no room: 10 comes first
large-index : line_answer (Op.Sqrdmlsh (record { size = Size.H; rm = 2; index = 8; rn = 1; rd = 0; form = Form.Scalar })) 0 ≡ Err (LineRefusal.Word WriteRefusal.IndexLimit)
unfolding line_answer encode_of answer write_checks
large-index = refl
