-- The rules that a text, a source or a proof breaks, in plain words.
use Rattle.std.specs.Prelude.{ℕ, Bool, false, nat_le, ◌&&◌, ◌||◌, ◌==◌, List, [], ◌∷◌, ◌++◌, take, Option, Some, None, codes, if◌then◌else◌}
use Rattle.std.specs.List.{list_all}
use Rattle.std.specs.Str.{bytes_eq}
use Rattle.std.specs.Fmt.{decimal}
use Rattle.mmtext.specs.Words.{Word, has_dollar}
use Rattle.mmtext.specs.Text.{Token}
use Rattle.mmtext.specs.declared.fault.TextFault.{TextFault}
use Rattle.mmtext.specs.declared.fault.FaultKind.{FaultKind}
use Rattle.mmtext.specs.declared.fault.FaultKind.TheVariants.{BadByte, BadToken, Unfinished, OutOfProfile, UnknownSymbol}
use Rattle.mmtext.specs.declared.fault.FaultKind.TheVariants.{RepeatedLabel, BadLabel, NoTypeFor, TooLong, NoMemory, LabelClashes}
use Rattle.mmtext.specs.declared.fault.FaultKind.TheVariants.{UnknownLabel, NotActive}
use Rattle.derivation.specs.declared.fault.ProofFaultKind.{ProofFaultKind}
use Rattle.derivation.specs.declared.fault.ProofFaultKind.TheVariants as proof
use Rattle.locating.specs.declared.fronts.Part.{Part}
use Rattle.locating.specs.declared.fronts.Part.TheVariants as part
use Rattle.locating.specs.Lines.{line_at, column_at, word_from}
use Rattle.locating.specs.Fronts.{says, words_of, front_of, part_at}
use Rattle.locating.specs.Taken.{is_float_front, first_declared, last_declared, last_typed}

-- of a text of any language
abbrev pub rule_of : FaultKind → List ℕ
rule_of BadByte = codes "a byte that is neither printable ASCII nor white space"
rule_of BadToken = codes "this word may not stand here"
rule_of Unfinished = codes "the text ends inside of a statement, a block or a comment"
rule_of OutOfProfile = codes "this part of Metamath is not read here"
rule_of UnknownSymbol = codes "no such symbol is declared here"
rule_of RepeatedLabel = codes "this name is taken already"
rule_of BadLabel = codes "no assertion or $f may have this label"
rule_of NoTypeFor = codes "this variable has no $f here"
rule_of TooLong = codes "this is longer than may be read"
rule_of NoMemory = codes "no memory"
rule_of LabelClashes = codes "this label is another one with a number behind it"
rule_of UnknownLabel = codes "nothing in front has this label"
rule_of NotActive = codes "this was declared in a block that is closed"

-- a text may begin with EF BB BF, which are no bytes of Metamath
abbrev pub order_mark : List ℕ
order_mark = 239 ∷ 187 ∷ 191 ∷ []

abbrev pub rule_of_bytes : List ℕ → List ℕ
rule_of_bytes text = if bytes_eq (take 3 text) order_mark then codes "the text begins with a byte order mark" else rule_of BadByte

-- of a text, at its fault
abbrev pub text_rule : List ℕ → FaultKind → List ℕ
text_rule text BadByte = rule_of_bytes text
text_rule text kind = rule_of kind

-- of a source: a word that may not stand where it does, by the part of the statement (sections 4.1.2, 4.1.3, 4.2.8; appendix B)
abbrev pub rule_at_start : Word → List ℕ
rule_at_start w =
    if bytes_eq w (codes "$)") then codes "no comment is open here" else (
    if bytes_eq w (codes "$}") then codes "no block is open here" else (
    if bytes_eq w (codes "$c") then codes "constants are declared outside of blocks" else (
    if has_dollar w then codes "no statement begins with this word" else codes "a label has letters, digits, hyphens, underscores and periods")))

abbrev pub end_rule : Word → List ℕ
end_rule w = if bytes_eq w (codes "$.") then codes "the steps leave no entry, or more than one" else rule_of BadToken

-- a keyword breaks another rule in a proof than a label or letters do
abbrev pub rule_in_proof : Word → List ℕ → List ℕ
rule_in_proof w rule = if has_dollar w then end_rule w else rule

-- A to Z and ? (appendix B)
abbrev pub is_letter : ℕ → Bool
is_letter b = (nat_le 65 b && nat_le b 90) || (b == 63)

abbrev pub letters_rule : Word → List ℕ
letters_rule w =
    if list_all is_letter w then codes "these letters name what isn't there, or take more entries than there are"
    else codes "proofs in letters have A to Z and ? alone"

abbrev pub word_rule : Part → Word → List ℕ
word_rule part.Comment w = codes "no comment has $( or $) inside of it"
word_rule part.Start w = rule_at_start w
word_rule part.Keyword w = codes "behind a label stands $f, $e, $a or $p"
word_rule part.Steps w = rule_in_proof w (codes "this step takes more entries than there are")
word_rule part.Labels w = rule_in_proof w (codes "no label of a mandatory hypothesis stands in parentheses")
word_rule part.Letters w = rule_in_proof w (letters_rule w)
word_rule part.Other w = rule_of BadToken

-- and where something stands that it speaks of
abbrev pub placed_rule : List ℕ → List ℕ → Option Token → List ℕ
placed_rule text rule None = rule
placed_rule text rule (Some t) =
    rule ++ (codes ", on line " ++ (decimal (line_at text t.place) ++ (codes ", column " ++ decimal (column_at text t.place))))

-- a name that is taken, in a statement that begins so: the variable of a $f has one; a symbol of a $v, or any other
abbrev pub begins_variables : List Token → Bool
begins_variables [] = false
begins_variables (t ∷ ts) = says (codes "$v") t

abbrev pub taken_behind : List ℕ → Word → List Token → List Token → List ℕ
taken_behind text w ts front =
    if is_float_front front then placed_rule text (codes "this variable has a $f already") (last_typed w ts) else (
    if begins_variables front then placed_rule text (rule_of RepeatedLabel) (last_declared w ts)
    else placed_rule text (rule_of RepeatedLabel) (first_declared w ts))

abbrev pub taken_rule : List ℕ → Word → Option (List Token) → List ℕ
taken_rule text w None = rule_of RepeatedLabel
taken_rule text w (Some ts) = taken_behind text w ts (front_of ts)

abbrev pub include_rule : Word → List ℕ
include_rule w =
    if bytes_eq w (codes "$[") then codes "no other file is read: $[ and $] include one" else rule_of OutOfProfile

-- of a source, at its fault, by the words in front of it
abbrev pub rule_behind : List ℕ → Option (List Token) → Word → FaultKind → List ℕ
rule_behind text front w BadByte = rule_of_bytes text
rule_behind text front w BadToken = word_rule (part_at front) w
rule_behind text front w OutOfProfile = include_rule w
rule_behind text front w RepeatedLabel = taken_rule text w front
rule_behind text front w kind = rule_of kind

abbrev pub source_rule : List ℕ → TextFault → List ℕ
source_rule text fault = rule_behind text (words_of (take fault.place text)) (word_from text fault.place) fault.kind

-- of a proof (section 4.1.4)
abbrev pub proof_rule : ProofFaultKind → List ℕ
proof_rule proof.UnknownStep = codes "this step names nothing that may be cited here"
proof_rule proof.StackShort = codes "this step takes more entries than there are"
proof_rule proof.WrongType = codes "an entry has another type than the $f that it is for"
proof_rule proof.HypothesisDiffers = codes "an entry isn't what the $e that it is for says here"
proof_rule proof.NotDisjoint = codes "a $d of what is cited is not kept here"
proof_rule proof.NotOneLeft = codes "the steps leave no entry, or more than one"
proof_rule proof.StatementDiffers = codes "what is proved isn't the statement"
proof_rule proof.TooLong = codes "this step makes an expression of more than 65535 symbols"
proof_rule proof.NoMemory = codes "no memory"
