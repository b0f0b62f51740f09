-- What would be written over something that is read, part after part.
use Rattle.std.proofs.Common.{◌≡◌, ◌++◌, ◌∷◌, [], ℕ, Bool, false, true, List, Bor, Option, Some, None, codes, inl, inr, refl, subst, sym, Result, Ok, Err}
use Rattle.commandline.specs.declared.edit_order.Allowed.{Allowed}
use Rattle.commandline.specs.declared.edit_order.Outputs.{Outputs}
use Rattle.conduct.specs.Comparing.{AreCompared, Clash}
use Rattle.conduct.proofs.Behind.{compared_front, compared_more}
use Rattle.outside.specs.Events.{Bytes, Event, says}
use Rattle.edittext.specs.declared.answering.Told.{Told}
use Rattle.program.specs.Edits.{IsAsked, IsConcluded, IsEditFollowed, IsEditedApart, IsEmptied, IsEmptiedThen, IsReadConcluded, clashes, clashes_if, file_of, listed, source_in}
use Rattle.program.specs.Endings.{IsEditTold, replies_path}
use Rattle.program.specs.declared.ending.NotDone.{NotDone}
use Rattle.program.specs.declared.ending.NotDone.TheVariants.{NotPlain}

-- what is said of a file
abbrev pub by_output : Bytes
by_output = codes "--output would be written over it"

abbrev pub by_source : Bytes
by_source = codes "SOURCE would be written over it"

abbrev pub by_replies : Bytes
by_replies = codes "--replies would be written over it"

-- the parts: by the edited source, by that in place of the source, and by what became of the transactions, twice
pub parts : (o : Outputs) (ps : List Bytes) (source : Bytes) (scripts : List Bytes) → ps ≡ source ∷ scripts
    → clashes o ps ≡ clashes_if (file_of o.place) by_output ps ++ (clashes_if (source_in o.place source) by_source scripts
    ++ (clashes_if (replies_path o) by_replies ps ++ clashes_if (replies_path o) by_replies (listed (file_of o.place))))
parts o ps source scripts is = subst
    (λ (qs : List Bytes). clashes o qs ≡ clashes_if (file_of o.place) by_output qs
    ++ (clashes_if (source_in o.place source) by_source scripts
    ++ (clashes_if (replies_path o) by_replies qs ++ clashes_if (replies_path o) by_replies (listed (file_of o.place)))))
    (sym is) refl

-- nothing clashes with no file
pub none_clash : (written : Option Bytes) (text : Bytes) → AreCompared (clashes_if written text []) [] None
none_clash None text = (refl, refl)
none_clash (Some path) text = (refl, refl)

abbrev pub First : Outputs → List Bytes → List Clash
First o ps = clashes_if (file_of o.place) by_output ps

abbrev pub Second : Outputs → Bytes → List Bytes → List Clash
Second o source scripts = clashes_if (source_in o.place source) by_source scripts

abbrev pub Third : Outputs → List Bytes → List Clash
Third o ps = clashes_if (replies_path o) by_replies ps

abbrev pub Last : Outputs → Option Bytes → List Clash
Last o file = clashes_if (replies_path o) by_replies (listed file)

whole : (o : Outputs) (ps : List Bytes) (source : Bytes) (scripts : List Bytes) (es : List Event) (found : Option Bytes)
    → ps ≡ source ∷ scripts
    → AreCompared (First o ps ++ (Second o source scripts ++ (Third o ps ++ Last o (file_of o.place)))) es found
    → AreCompared (clashes o ps) es found
whole o ps source scripts es found named told =
    subst (λ (xs : List Clash). AreCompared xs es found) (sym (parts o ps source scripts named)) told

-- found in the first part, or behind parts in which nothing is
pub in_first : (o : Outputs) (ps : List Bytes) (source : Bytes) (scripts : List Bytes) (es : List Event) (line : Bytes)
    → ps ≡ source ∷ scripts → AreCompared (First o ps) es (Some line) → AreCompared (clashes o ps) es (Some line)
in_first o ps source scripts es line named found =
    whole o ps source scripts es (Some line) named (compared_front (First o ps) _ es line found)

pub in_second : (o : Outputs) (ps : List Bytes) (source : Bytes) (scripts : List Bytes) (es fs : List Event) (line : Bytes)
    → ps ≡ source ∷ scripts → AreCompared (First o ps) es None → AreCompared (Second o source scripts) fs (Some line)
    → AreCompared (clashes o ps) (es ++ fs) (Some line)
in_second o ps source scripts es fs line named none found = whole o ps source scripts (es ++ fs) (Some line) named
    (compared_more (First o ps) _ es fs (Some line) none (compared_front (Second o source scripts) _ fs line found))

pub in_third : (o : Outputs) (ps : List Bytes) (source : Bytes) (scripts : List Bytes) (es fs hs : List Event) (line : Bytes)
    → ps ≡ source ∷ scripts → AreCompared (First o ps) es None → AreCompared (Second o source scripts) fs None
    → AreCompared (Third o ps) hs (Some line) → AreCompared (clashes o ps) (es ++ (fs ++ hs)) (Some line)
in_third o ps source scripts es fs hs line named none nothing found = whole o ps source scripts (es ++ (fs ++ hs)) (Some line) named
    (compared_more (First o ps) _ es (fs ++ hs) (Some line) none
    (compared_more (Second o source scripts) _ fs hs (Some line) nothing (compared_front (Third o ps) _ hs line found)))

pub in_last : (o : Outputs) (ps : List Bytes) (source : Bytes) (scripts : List Bytes) (file : Option Bytes) (es fs hs ks : List Event)
    (found : Option Bytes) → ps ≡ source ∷ scripts → file ≡ file_of o.place → AreCompared (First o ps) es None
    → AreCompared (Second o source scripts) fs None → AreCompared (Third o ps) hs None → AreCompared (Last o file) ks found
    → AreCompared (clashes o ps) (es ++ (fs ++ (hs ++ ks))) found
in_last o ps source scripts file es fs hs ks found named is none nothing neither told =
    whole o ps source scripts (es ++ (fs ++ (hs ++ ks))) found named
    (compared_more (First o ps) _ es (fs ++ (hs ++ ks)) found none
    (compared_more (Second o source scripts) _ fs (hs ++ ks) found nothing
    (compared_more (Third o ps) _ hs ks found neither
    (subst (λ (f : Option Bytes). AreCompared (Last o f) ks found) is told))))

-- something would be written over
pub over : (keyed : Bool) (paths : List Bytes) (workers : ℕ) (room : Option ℕ) (o : Outputs) (allowed : Allowed)
    (asked : List Event) (line : Bytes) → AreCompared (clashes o paths) asked (Some line)
    → IsEditedApart keyed paths workers room o allowed (asked ++ says line ∷ []) 1
over keyed paths workers room o allowed asked line compared = (asked, says line ∷ [], refl, inl (line, compared, (refl, refl)))

-- nothing would, and more follows
apart : (keyed : Bool) (paths : List Bytes) (workers : ℕ) (room : Option ℕ) (o : Outputs) (allowed : Allowed)
    (asked rest : List Event) (status : ℕ) → AreCompared (clashes o paths) asked None
    → IsEmptiedThen (replies_path o) (IsEditFollowed keyed paths workers room o allowed) rest status
    → IsEditedApart keyed paths workers room o allowed (asked ++ rest) status
apart keyed paths workers room o allowed asked rest status compared then = (asked, rest, refl, inr (compared, then))

-- the file for what became of the transactions can't be emptied
pub not_emptied : (keyed : Bool) (paths : List Bytes) (workers : ℕ) (room : Option ℕ) (o : Outputs)
    (allowed : Allowed) (asked rest : List Event) → AreCompared (clashes o paths) asked None
    → IsEmptied (replies_path o) rest false → IsEditedApart keyed paths workers room o allowed (asked ++ rest) 1
not_emptied keyed paths workers room o allowed asked rest compared not =
    apart keyed paths workers room o allowed asked rest 1 compared (inl (not, refl))

-- it can, and the source is edited
pub emptied : (keyed : Bool) (paths : List Bytes) (workers : ℕ) (room : Option ℕ) (o : Outputs)
    (allowed : Allowed) (asked before rest : List Event) (status : ℕ) → AreCompared (clashes o paths) asked None
    → IsEmptied (replies_path o) before true → IsEditFollowed keyed paths workers room o allowed rest status
    → IsEditedApart keyed paths workers room o allowed (asked ++ (before ++ rest)) status
emptied keyed paths workers room o allowed asked before rest status compared done follows =
    apart keyed paths workers room o allowed asked (before ++ rest) status compared (inr (before, rest, refl, done, follows))

-- ---- the answer, or why there is none

-- the source can't be put in place
pub not_plain : (keyed : Bool) (paths : List Bytes) (path : Bor Bytes) (scripts : List Bytes) (workers : ℕ) (room : Option ℕ) (o : Outputs)
    (allowed : Allowed) (asked : List Event) → paths ≡ path.now ∷ scripts → IsAsked o.place path.now asked false
    → IsConcluded keyed paths workers room o allowed asked (Err (NotPlain path))
not_plain keyed paths path scripts workers room o allowed asked named is =
    subst (λ (ps : List Bytes). IsConcluded keyed ps workers room o allowed asked (Err (NotPlain path))) (sym named)
    (inl (path, refl, refl, is))

-- it can
pub plain : (keyed : Bool) (paths : List Bytes) (source : Bytes) (scripts : List Bytes) (workers : ℕ) (room : Option ℕ)
    (o : Outputs) (allowed : Allowed) (asked rest : List Event) (c : Result Told NotDone) → paths ≡ source ∷ scripts
    → IsAsked o.place source asked true → IsReadConcluded keyed paths workers room o allowed rest c
    → IsConcluded keyed paths workers room o allowed (asked ++ rest) c
plain keyed paths source scripts workers room o allowed asked rest c named is = subst
    (λ (ps : List Bytes). IsReadConcluded keyed ps workers room o allowed rest c → IsConcluded keyed ps workers room o allowed
    (asked ++ rest) c) (sym named) (λ ends. inr (asked, rest, refl, is, ends))

-- an answer is told
pub answer_told : (keyed : Bool) (paths : List Bytes) (source : Bytes) (scripts : List Bytes) (workers : ℕ) (room : Option ℕ) (o : Outputs)
    (allowed : Allowed) (front rest : List Event) (told : Told) (status : ℕ) → paths ≡ source ∷ scripts
    → IsConcluded keyed paths workers room o allowed front (Ok told) → IsEditTold o source told rest status
    → IsEditFollowed keyed paths workers room o allowed (front ++ rest) status
answer_told keyed paths source scripts workers room o allowed front rest told status named = subst
    (λ (ps : List Bytes). IsConcluded keyed ps workers room o allowed front (Ok told) → IsEditTold o source told rest status
    → IsEditFollowed keyed ps workers room o allowed (front ++ rest) status) (sym named)
    (λ concluded is. (front, rest, Ok told, refl, concluded, is))
