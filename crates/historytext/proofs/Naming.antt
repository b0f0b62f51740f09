-- What a command that is not refused names, and what its reply shows, can stand in a text: lawful labels, units, and numbers within the
-- limits.
use Rattle.std.proofs.Common.{◌≡◌, ◌≢◌, ◌≤◌, ℕ, ◌+◌, true, false, List, [], ◌∷◌, Option, Some, None, Result, Ok, Err, length, get_or, map}
use Rattle.std.proofs.Common.{refl, sym, subst, arith}
use Rattle.std.specs.Prelude.{IsTrue, is_some, slice_get, if◌then◌else◌}
use mathlib.Core.Bool.{not}
use Rattle.std.specs.List.{All, AllByRecursion, AllZip, Contains}
use Rattle.std.proofs.lemmas.Bool.{cond-true, not-false}
use Rattle.std.proofs.lemmas.List.Elements.{All-contains, All-head, All-map, All-tail, All-weaker, Contains-append_right, Contains-get_or}
use Rattle.std.proofs.lemmas.List.Sorted.{All-permutation, length_permutation}
use Rattle.std.proofs.lemmas.List.Sums.{count_by-le-length}
use Rattle.std.proofs.lemmas.List.{length-map}
use Rattle.std.proofs.lemmas.Option.{slice_get_within, get_or_from_slice_get}
use Rattle.mmsyntax.specs.declared.statement.Assertion.{Assertion}
use Rattle.mmsyntax.specs.declared.statement.Kind.{Kind}
use Rattle.mmsyntax.specs.declared.statement.Kind.TheVariants.{Axiom, Theorem}
use Rattle.mmsyntax.specs.declared.statement.Step.{Step}
use Rattle.mmsyntax.specs.declared.statement.Step.TheVariants.{Float, Hyp, Cite}
use Rattle.mmtext.specs.Words.{is_label}
use Rattle.mmsyntax.specs.Tables.{Tables, meaning}
use Rattle.mmsyntax.specs.Assertions.{is_lawful_label, CitesApart, IsNameable, IsUnit}
use Rattle.mmsyntax.proofs.Again.{plain_label}
use Rattle.library.specs.declared.library.Ranked.{Ranked}
use Rattle.library.specs.declared.command.Command.{Command}
use Rattle.library.specs.declared.command.Command.TheVariants as command
use Rattle.library.specs.declared.command.Line.{Line}
use Rattle.library.specs.declared.command.Reply.{Reply}
use Rattle.library.specs.declared.command.Reply.TheVariants.{Done, Shown, Listed}
use Rattle.library.specs.declared.reason.Reason.{Reason}
use Rattle.library.specs.declared.reason.Reason.TheVariants.{NotATheorem, UnknownLabel}
use Rattle.library.specs.declared.reason.Refused.{Refused as Refusal}
use Rattle.library.specs.Library.{highest_rank, Setting, Verifies, label_of, in_export_order}
use Rattle.library.specs.Edits.{Edited, Tests, tested, of_found, done, has, found, cites, citers, is_axiom, is_labelled, added, changed, with_rank, recited, where_so}
use Rattle.library.specs.Edits.{with_proof, rename, without, still_cited, add_tests, reprove_tests, replace_tests, rename_tests, move_tests, shown, listing_line, edit}
use Rattle.library.specs.Fitting.{CommandFits}
use Rattle.library.specs.Transactions.{Applied, with_reply, then_apply, apply_from, apply}
use Rattle.library.specs.Histories.{Entry, open_entry, done_entry, EntryFits, EntriesFit, after_front, IsLegal}
use Rattle.librarylaws.proofs.Editing.{tests_passed, where_none, lawful_where, edit_verifies}
use Rattle.library.proofs.Filtered.{contains_mapped}
use Rattle.librarylaws.proofs.Fronts.{fronts_verify}
use Rattle.librarylaws.proofs.Listing.{library_shown}
use Rattle.library.proofs.Places.{is_labelled-own, has_somewhere, found_in}
use Rattle.library.proofs.Showing.{InRange, units_of}
use Rattle.scripts.specs.Scripts.{Part, a_word, a_rank, a_unit, a_proof, parts}

-- ---- what can stand in a text

abbrev pub IsLawful : Tables → List ℕ → Type 0
IsLawful t label = IsTrue (is_lawful_label t label)

-- an assertion with its rank
pub record IsSound (t : Tables) (e : Ranked) : Type 0 where
  pub small : e.rank ≤ highest_rank
  pub unit : IsUnit t e.assertion
  pub lawful : IsLawful t (label_of e)

-- a part of a command: a word of letters, digits and the like; a rank; a unit; another proof of L names at most 1,000 hypotheses, and no
-- L.k beside them
abbrev pub IsSoundPart : Tables → Part → Type 0
IsSoundPart t (a_word w) = (w ≢ []) × (is_label w ≡ true)
IsSoundPart t (a_rank rank) = rank ≤ highest_rank
IsSoundPart t (a_unit a) = IsUnit t a × IsLawful t a.label
IsSoundPart t (a_proof label steps) =
    IsLawful t label × (steps ≢ []) × (length steps ≤ 16384) × All (IsNameable t 1000) steps × All (CitesApart label) steps

abbrev pub IsSoundCommand : Tables → Command → Type 0
IsSoundCommand t c = AllByRecursion (IsSoundPart t) (parts c)

named : (t : Tables) (label : List ℕ) → IsLawful t label → IsSoundPart t (a_word label)
named t label h = let p = plain_label label (is_some (meaning t label)) h in (p.some, p.label)

abbrev pub IsSoundLine : Tables → Line → Type 0
IsSoundLine t l = (l.rank ≤ highest_rank) × IsLawful t l.label × (l.citers ≤ 4096)

abbrev pub IsSoundReply : Tables → Reply → Type 0
IsSoundReply t Done = Unit {0}
IsSoundReply t (Shown rank count a) = (count ≤ 4096) × IsSound t (record { rank = rank; assertion = a })
IsSoundReply t (Listed lines) = (length lines ≤ 4096) × All (IsSoundLine t) lines

-- a command and its reply
abbrev pub IsSoundTurn : Tables → Command → Reply → Type 0
IsSoundTurn t c r = IsSoundCommand t c × IsSoundReply t r

-- ---- what stands in a library

sound_in : (s : Setting) (lib : List Ranked) → Verifies s lib → (e : Ranked) → Contains lib e → IsSound s.prelude e
sound_in s lib v e at = record {
  small = (All-contains InRange lib e v.library.ranks at).1;
  unit = All-contains (λ f. IsUnit s.prelude f.assertion) lib e (units_of s lib v) at;
  lawful = All-contains (λ f. IsLawful s.prelude (label_of f)) lib e v.library.lawful at;
}

module _ (s : Setting) (lib : List Ranked) (v : Verifies s lib) where
  few_citers : (label : List ℕ) → citers lib label ≤ 4096
  few_citers label = omega (arith, count_by-le-length (cites label) lib, v.library.room, v.setting.few)

  found_lawful : (label : List ℕ) (e : Ranked) → found lib label ≡ Some e → IsLawful s.prelude label
  found_lawful label e here =
      let own = found_in lib label e here in
      subst (IsLawful s.prelude) (sym own.1) (sound_in s lib v e own.0).lawful

  line_sound : (e : Ranked) → IsSound s.prelude e → IsSoundLine s.prelude (listing_line lib e)
  line_sound e h = (h.small, h.lawful, few_citers (label_of e))

  lines_sound : IsSoundReply s.prelude (Listed (map (listing_line lib) (in_export_order lib)))
  lines_sound =
      let shown = in_export_order lib in
      let same = (library_shown lib).same in
      let all : All (IsSound s.prelude) lib = λ i d lt. sound_in s lib v (get_or lib i d) (Contains-get_or lib i d lt) in (
        omega (arith, length-map shown (listing_line lib), length_permutation lib shown same, v.library.room, v.setting.few),
        All-map (IsSoundLine s.prelude) (listing_line lib) shown
            (All-weaker (IsSound s.prelude) (λ e. IsSoundLine s.prelude (listing_line lib e)) line_sound shown
            (All-permutation (IsSound s.prelude) lib shown same all)),
      )

  labelled_lawful : (label : List ℕ) → has lib label ≡ true → IsLawful s.prelude label
  labelled_lawful label h =
      let at = has_somewhere lib label h in
      subst (IsLawful s.prelude) at.4 (sound_in s lib v at.1 (at.0, at.2, at.3)).lawful

-- ---- edits

nameable_more : (t : Tables) (n m : ℕ) → n ≤ m → (x : Step) → IsNameable t n x → IsNameable t m x
nameable_more t n m le (Float j) h = h
nameable_more t n m le (Hyp k) h = omega arith
nameable_more t n m le (Cite w) h = h

theorem_where : (kind : Kind) → is_axiom kind ≡ false → kind ≡ Theorem
theorem_where Axiom h = absurd cc
theorem_where Theorem h = refl

-- an edit of what is found is that of one assertion
found_then : (o : Option Ranked) (act : Ranked → Result Edited Reason) (e : Edited) → of_found o act ≡ Ok e
    → (f : Ranked) × (o ≡ Some f) × (act f ≡ Ok e)
found_then None act e h = absurd cc
found_then (Some f) act e h = (f, refl, h)

module _ (s : Setting) (lib : List Ranked) (v : Verifies s lib) (e : Edited) where
  -- what is tested and done has the reply `done`
  done_reply : (ts : Tests) (next : List Ranked) → tested ts (done next) ≡ Ok e → IsSoundReply s.prelude e.reply
  done_reply ts next h = subst (λ (x : Edited). IsSoundReply s.prelude x.reply) (tests_passed ts (done next) e h).1 tt

  add_sound : (rank : ℕ) (a : Assertion) → CommandFits s.prelude (command.Add rank a) → edit s lib (command.Add rank a) ≡ Ok e
      → IsSoundTurn s.prelude (command.Add rank a) e.reply
  add_sound rank a fits h =
      let new : Ranked = record { rank = rank; assertion = a } in
      let ts = add_tests s lib rank a in
      let same = (tests_passed ts (done (added lib rank a)) e h).1 in
      let there : Contains (added lib rank a) new = Contains-append_right lib (new ∷ []) new (0, omega arith, refl) in
      let sound = sound_in s e.library (edit_verifies s lib (command.Add rank a) e v fits h) new
      (subst (λ (x : Edited). Contains x.library new) same there) in (
        (((λ i. absurd cc), refl), (sound.small, ((sound.unit, sound.lawful), tt))),
        done_reply ts (added lib rank a) h,
      )

  reprove_sound : (label : List ℕ) (steps : List Step) → CommandFits s.prelude (command.Reprove label steps)
      → edit s lib (command.Reprove label steps) ≡ Ok e → IsSoundTurn s.prelude (command.Reprove label steps) e.reply
  reprove_sound label steps fits h =
      let next = changed label (with_proof steps) lib in
      let act = λ (f : Ranked). tested (reprove_tests s lib steps f) (done next) in
      let here = found_then (found lib label) act e h in
      let f = here.0 in
      let own = found_in lib label f here.1 in
      let passed = tests_passed (reprove_tests s lib steps f) (done next) e here.2 in
      let new = with_proof steps f in
      let at = λ (g : Ranked). if is_labelled label g then with_proof steps g else g in
      let is_new : at f ≡ new = cond-true (is_labelled label f) new f (is_labelled-own label f (sym own.1)) in
      let there : Contains next new = subst (λ g. Contains next g) is_new (contains_mapped at lib f own.0) in
      let sound = sound_in s e.library (edit_verifies s lib (command.Reprove label steps) e v fits h) new
      (subst (λ (x : Edited). Contains x.library new) passed.1 there) in
      let theorem = theorem_where f.assertion.kind (where_none (is_axiom f.assertion.kind) NotATheorem passed.0.0) in
      let lawful = found_lawful s lib v label f here.1 in
      let proof : IsSoundPart s.prelude (a_proof label steps) = (
        lawful,
        sound.unit.some_steps theorem,
        fits.0,
        All-weaker (IsNameable s.prelude (length f.assertion.hyps)) (IsNameable s.prelude 1000)
            (nameable_more s.prelude (length f.assertion.hyps) 1000 sound.unit.fits.few_hyps) steps sound.unit.steps,
        fits.1,
      ) in (
        (((λ i. absurd cc), refl), (named s.prelude label lawful, (proof, tt))),
        done_reply (reprove_tests s lib steps f) next here.2,
      )

  replace_sound : (label old new : List ℕ) → edit s lib (command.Replace label old new) ≡ Ok e
      → IsSoundTurn s.prelude (command.Replace label old new) e.reply
  replace_sound label old new h =
      let next = λ (f : Ranked). changed label (with_proof (recited old new f.assertion.proof)) lib in
      let here = found_then (found lib label) (λ f. tested (replace_tests s lib old new f) (done (next f))) e h in
      let ts = replace_tests s lib old new here.0 in
      let passed = (tests_passed ts (done (next here.0)) e here.2).0 in
      let known : (l : List ℕ) → where_so (not (has lib l)) UnknownLabel ≡ None → IsSoundPart s.prelude (a_word l) =
      λ l none. named s.prelude l (labelled_lawful s lib v l (not-false (has lib l) (where_none (not (has lib l)) UnknownLabel none))) in
      let citer = named s.prelude label (found_lawful s lib v label here.0 here.1) in (
        (((λ i. absurd cc), refl), (citer, (known old passed.0, (known new passed.1.0, tt)))),
        done_reply ts (next here.0) here.2,
      )

  rename_sound : (old new : List ℕ) → edit s lib (command.Rename old new) ≡ Ok e → IsSoundTurn s.prelude (command.Rename old new) e.reply
  rename_sound old new h =
      let ts = rename_tests s lib old new in
      let passed = (tests_passed ts (done (rename old new lib)) e h).0 in
      let known = not-false (has lib old) (where_none (not (has lib old)) UnknownLabel passed.0) in
      let before = named s.prelude old (labelled_lawful s lib v old known) in
      let after_front = named s.prelude new (lawful_where s new passed.1.0) in
      ((((λ i. absurd cc), refl), (before, (after_front, tt))), done_reply ts (rename old new lib) h)

  move_sound : (label : List ℕ) (rank : ℕ) → rank ≤ highest_rank → edit s lib (command.Move label rank) ≡ Ok e
      → IsSoundTurn s.prelude (command.Move label rank) e.reply
  move_sound label rank fits h =
      let next = changed label (with_rank rank) lib in
      let here = found_then (found lib label) (λ f. tested (move_tests lib rank f) (done next)) e h in
      let moved = named s.prelude label (found_lawful s lib v label here.0 here.1) in
      ((((λ i. absurd cc), refl), (moved, (fits, tt))), done_reply (move_tests lib rank here.0) next here.2)

  delete_sound : (label : List ℕ) → edit s lib (command.Delete label) ≡ Ok e → IsSoundTurn s.prelude (command.Delete label) e.reply
  delete_sound label h =
      let ts : Tests = still_cited lib label ∷ [] in
      let next = without label lib in
      let here = found_then (found lib label) (λ f. tested ts (done next)) e h in
      let gone = named s.prelude label (found_lawful s lib v label here.0 here.1) in
      ((((λ i. absurd cc), refl), (gone, tt)), done_reply ts next here.2)

  show_sound : (label : List ℕ) → edit s lib (command.Show label) ≡ Ok e → IsSoundTurn s.prelude (command.Show label) e.reply
  show_sound label h =
      let here = found_then (found lib label) (λ f. Ok (shown lib f)) e h in
      let f = here.0 in
      let own = found_in lib label f here.1 in
      let same : shown lib f ≡ e = (let ok : Ok (shown lib f) ≡ Ok e = here.2 in cc) in (
        (((λ i. absurd cc), refl), (named s.prelude label (found_lawful s lib v label f here.1), tt)),
        subst (λ (x : Edited). IsSoundReply s.prelude x.reply) same (few_citers s lib v (label_of f), sound_in s lib v f own.0),
      )

  pub edit_sound : (c : Command) → CommandFits s.prelude c → edit s lib c ≡ Ok e → IsSoundTurn s.prelude c e.reply
  edit_sound (command.Add rank a) fits h = add_sound rank a fits h
  edit_sound (command.Reprove label steps) fits h = reprove_sound label steps fits h
  edit_sound (command.Replace label old new) fits h = replace_sound label old new h
  edit_sound (command.Rename old new) fits h = rename_sound old new h
  edit_sound (command.Move label rank) fits h = move_sound label rank fits h
  edit_sound (command.Delete label) fits h = delete_sound label h
  edit_sound (command.Show label) fits h = show_sound label h
  edit_sound command.List fits h =
      let all : Edited = record { library = lib; reply = Listed (map (listing_line lib) (in_export_order lib)) } in
      let same : all ≡ e = (let ok : Ok all ≡ Ok e = h in cc) in
      ((((λ i. absurd cc), refl), tt), subst (λ (x : Edited). IsSoundReply s.prelude x.reply) same (lines_sound s lib v))

-- ---- transactions

-- the commands of a transaction that was not refused, each with its reply
abbrev AppliedSound : Tables → List Command → Result Applied Refusal → Type 0
AppliedSound t cs (Ok a) = AllZip (IsSoundTurn t) cs a.replies
AppliedSound t cs (Err r) = Unit {0}

reply_sound : (t : Tables) (c : Command) (cs : List Command) (reply : Reply) (r : Result Applied Refusal) → IsSoundTurn t c reply
    → AppliedSound t cs r → AppliedSound t (c ∷ cs) (with_reply reply r)
reply_sound t c cs reply (Ok a) one rest = (one, rest)
reply_sound t c cs reply (Err r) one rest = tt

then_sound : (t : Tables) (n : ℕ) (c : Command) (cs : List Command) (r : Result Edited Reason) (rest : List Ranked → Result Applied Refusal)
    → ((e : Edited) → r ≡ Ok e → IsSoundTurn t c e.reply) → ((e : Edited) → r ≡ Ok e → AppliedSound t cs (rest e.library))
    → AppliedSound t (c ∷ cs) (then_apply n r rest)
then_sound t n c cs (Ok e) rest one more = reply_sound t c cs e.reply (rest e.library) (one e refl) (more e refl)
then_sound t n c cs (Err reason) rest one more = tt

apply_from_sound : (s : Setting) (n : ℕ) (lib : List Ranked) (cs : List Command) → Verifies s lib → All (CommandFits s.prelude) cs
    → AppliedSound s.prelude cs (apply_from s n lib cs)
unfolding apply_from
apply_from_sound s n lib [] v fit = tt
apply_from_sound s n lib (c ∷ cs) v fit =
    let P = CommandFits s.prelude in
    let first = All-head P c cs fit in
    then_sound s.prelude n c cs (edit s lib c) (λ next. apply_from s (n + 1) next cs) (λ e. edit_sound s lib v e c first)
    (λ e h. apply_from_sound s (n + 1) e.library cs (edit_verifies s lib c e v first h) (All-tail P c cs fit))

pub apply_sound : (s : Setting) (lib : List Ranked) (cs : List Command) (a : Applied) → Verifies s lib → All (CommandFits s.prelude) cs
    → apply s lib cs ≡ Ok a → AllZip (IsSoundTurn s.prelude) cs a.replies
apply_sound s lib cs a v fit h = subst (AppliedSound s.prelude cs) h (apply_from_sound s 1 lib cs v fit)

-- ---- legal histories

pub legal_sound : (s : Setting) (lib0 : List Ranked) (h : List Entry) (i : ℕ) (cs : List Command) (replies : List Reply) → Verifies s lib0
    → EntriesFit s.prelude h → IsLegal s lib0 h → slice_get h i ≡ Some (done_entry cs replies) → AllZip (IsSoundTurn s.prelude) cs replies
legal_sound s lib0 h i cs replies v fit legal at =
    let within = slice_get_within h i (done_entry cs replies) at in
    let is = get_or_from_slice_get h i (done_entry cs replies) open_entry at in
    let commands : All (CommandFits s.prelude) cs = subst (EntryFits s.prelude) is (fit i open_entry within) in
    let answer = legal i cs replies at in
    apply_sound s (after_front s lib0 h i) cs (record { library = answer.0; replies = replies })
    (fronts_verify s lib0 h i v fit) commands answer.1
