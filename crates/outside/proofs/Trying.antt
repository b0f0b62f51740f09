-- How far it goes with a new file beside another: what deeds on it leave as it is.
use Rattle.std.proofs.Common.{◌≡◌, ◌≢◌, ◌∙◌, ◌++◌, ◌∷◌, [], true, List, Option, Some, None, Result, Ok, Err, ap, append_assoc, append-nil, refl, subst, sym, inl, inr, bytes_eq, if◌then◌else◌, ℕ, length, arith, ◌+◌, suc}
use Rattle.std.proofs.lemmas.Slice.Eq.{bytes_eq-Decides}
use Rattle.std.proofs.lemmas.List.{length-append}
use Rattle.std.specs.Prelude.{is_some, option_map, string_bytes}
use Rattle.outside.specs.Events.{Bytes, left_of}
use Rattle.outside.specs.Deeds.{Deed, Does, Each, IsGivenUp, IsMovedOver, IsTaken, OneFails, Spares, Failure, IsReasonOf, all_left, cuts, failure_in, fills, left_by, listed, makes, moves, permissions_of, permits, removes, syncs, without}
use Rattle.outside.specs.Troubles.{IsTroubleOf}
use Rattle.std.specs.declared.io.ErrorKind.{ErrorKind}
use Rattle.std.specs.declared.io.ErrorKind.TheVariants.{AlreadyExists, PermissionDenied}
use Rattle.outside.specs.declared.trouble.Trouble.{Trouble}
use Rattle.outside.specs.Tried.{IsBegun, IsFinished, IsMade, IsMoved, IsTakenBack, IsVain, Turn}
use Rattle.outside.specs.Written.{IsPutAt, IsPutInto, IsPutOver}
use Rattle.outside.specs.declared.trouble.Trouble.TheVariants as trouble
use Rattle.outside.specs.declared.trouble.Unwritten.{Unwritten}

-- ---- one after another

pub does_more : {a b c : List Deed → Type 0} {k l m : Bytes → Option Bytes} {ds es : List Deed} → Does a b k l ds → Does b c l m es
    → Does a c k m (ds ++ es)
does_more {c} {ds} {es} first next = record {
  behind = λ front before. subst c (append_assoc front ds es) (next.behind (front ++ ds) (first.behind front before));
  kept = next.kept ∙ first.kept;
}

pub does_nothing : (a : List Deed → Type 0) (k : Bytes → Option Bytes) → Does a a k k []
does_nothing a k = record { behind = λ front before. subst a (sym (append-nil front)) before; kept = refl }

pub each_both : (P : Deed → Type 0) (ds es : List Deed) → Each P ds → Each P es → Each P (ds ++ es)
each_both P [] es first next = next
each_both P (d ∷ ds) es first next = (first.0, each_both P ds es first.1 next)

pub left_both : (paths : List Bytes) (ds es : List Deed) → all_left paths (ds ++ es) ≡ all_left (all_left paths ds) es
left_both paths [] es = refl
left_both paths (d ∷ ds) es = left_both (left_by paths d) ds es

-- ---- in vain

vain_spares : (real : Bytes) (d : Deed) → IsVain d → Spares real d
vain_spares real (makes path how) is = λ e. absurd (is e)
vain_spares real (cuts path how) is = absurd is
vain_spares real (permits path from how) is = absurd is
vain_spares real (fills path text how) is = absurd is
vain_spares real (syncs path how) is = absurd is
vain_spares real (moves from to how) is = absurd is
vain_spares real (removes path how) is = absurd is

vain_leaves : (paths : List Bytes) (d : Deed) → IsVain d → left_by paths d ≡ paths
vain_leaves paths (makes path None) is = absurd (is refl)
vain_leaves paths (makes path (Some kind)) is = refl
vain_leaves paths (cuts path how) is = absurd is
vain_leaves paths (permits path from how) is = absurd is
vain_leaves paths (fills path text how) is = absurd is
vain_leaves paths (syncs path how) is = absurd is
vain_leaves paths (moves from to how) is = absurd is
vain_leaves paths (removes path how) is = absurd is

taken_vain : (d : Deed) → IsTaken d → IsVain d
taken_vain (makes path how) is = λ e. absurd cc
taken_vain (cuts path how) is = absurd is
taken_vain (permits path from how) is = absurd is
taken_vain (fills path text how) is = absurd is
taken_vain (syncs path how) is = absurd is
taken_vain (moves from to how) is = absurd is
taken_vain (removes path how) is = absurd is

pub all_vain : (ds : List Deed) → Each IsTaken ds → Each IsVain ds
all_vain [] is = tt
all_vain (d ∷ ds) is = (taken_vain d is.0, all_vain ds is.1)

pub all_spare : (real : Bytes) (ds : List Deed) → Each IsVain ds → Each (Spares real) ds
all_spare real [] is = tt
all_spare real (d ∷ ds) is = (vain_spares real d is.0, all_spare real ds is.1)

pub none_left : (paths : List Bytes) (ds : List Deed) → Each IsVain ds → all_left paths ds ≡ paths
none_left paths [] is = refl
none_left paths (d ∷ ds) is = ap (λ (ps : List Bytes). all_left ps ds) (vain_leaves paths d is.0) ∙ none_left paths ds is.1

-- nothing but that was done: the old file stays
pub vain_put : (real : Bytes) (why : Unwritten) (ds : List Deed) → why.left ≡ None → Each IsVain ds
    → IsReasonOf why.trouble ds → IsGivenUp real why ds
vain_put real why ds none vain failed = record {
  spared = all_spare real ds vain;
  gone = none_left [] ds vain ∙ ap (λ (left : Option _). listed (option_map string_bytes left)) (sym none);
  failed = failed;
}

-- ---- one of them fails

fails_front : (why : Trouble) (ds es : List Deed) → OneFails why ds → OneFails why (ds ++ es)
fails_front why [] es fails = absurd fails
fails_front why (d ∷ ds) es (inl here) = inl here
fails_front why (d ∷ ds) es (inr there) = inr (fails_front why ds es there)

pub fails_behind : (why : Trouble) (ds es : List Deed) → OneFails why es → OneFails why (ds ++ es)
fails_behind why [] es fails = fails
fails_behind why (d ∷ ds) es fails = inr (fails_behind why ds es fails)

-- the one deed can't be done
pub one_fails : (why : Trouble) (d : Deed) (kind : ErrorKind) → failure_in d ≡ Some kind → IsTroubleOf kind why → OneFails why (d ∷ [])
one_fails why d kind failed is = inl (kind, failed, is)

-- the last is a file that isn't made
pub unmade_fails : (tried : List Deed) (path : Bytes) (kind : ErrorKind) (why : Trouble) → IsTroubleOf kind why
    → OneFails why (tried ++ makes path (Some kind) ∷ [])
unmade_fails tried path kind why is =
    fails_behind why tried (makes path (Some kind) ∷ []) (one_fails why (makes path (Some kind)) kind refl is)

-- what fails is the reason
pub reason_fails : (why : Trouble) (ds : List Deed) → OneFails why ds → IsReasonOf why ds
reason_fails trouble.NoMemory ds fails = tt
reason_fails (trouble.Refused reason) ds fails = fails

-- ---- on the new file

pub begun_more : (real beside : Bytes) (ds es : List Deed) → IsBegun real beside ds → IsBegun real beside es
    → IsBegun real beside (ds ++ es)
begun_more real beside ds es first next = record {
  spared = λ other. each_both (Spares real) ds es (first.spared other) (next.spared other);
  there = λ paths. left_both paths ds es ∙ (ap (λ (ps : List Bytes). all_left ps es) (first.there paths) ∙ next.there paths);
}

pub begun_none : (real beside : Bytes) → IsBegun real beside []
begun_none real beside = record { spared = λ other. tt; there = λ paths. refl }

pub begun_permits : (real beside from : Bytes) (how : Failure) → IsBegun real beside (permits beside from how ∷ [])
begun_permits real beside from how = record { spared = λ other. (other, tt); there = λ paths. refl }

pub begun_fills : (real beside text : Bytes) (how : Failure) → IsBegun real beside (fills beside text how ∷ [])
begun_fills real beside text how = record { spared = λ other. (other, tt); there = λ paths. refl }

pub begun_syncs : (real beside : Bytes) (how : Failure) → IsBegun real beside (syncs beside how ∷ [])
begun_syncs real beside how = record { spared = λ other. (tt, tt); there = λ paths. refl }

pub begun_unmoved : (real beside : Bytes) (kind : ErrorKind) → IsBegun real beside (moves beside real (Some kind) ∷ [])
begun_unmoved real beside kind = record { spared = λ other. ((other, λ e. absurd cc), tt); there = λ paths. refl }

pub begun_permissions : (real beside : Bytes) (old : Option Bytes) → IsBegun real beside (permissions_of old beside)
begun_permissions real beside None = begun_none real beside
begun_permissions real beside (Some from) = begun_permits real beside from None

-- ---- all of it

same_bytes : (path : Bytes) → bytes_eq path path ≡ true
same_bytes path = (bytes_eq-Decides path path).1 refl

taken_out : (path : Bytes) → without path (path ∷ []) ≡ []
taken_out path = rw (same_bytes path) refl

-- a file was made at another path, and moved over the old one
pub moved_over : (old : Option Bytes) (real beside text : Bytes) (tried ds : List Deed) → beside ≢ real → Each IsTaken tried
    → IsMoved old real beside text ds (Ok tt) → IsMovedOver old real text ((tried ++ makes beside None ∷ []) ++ ds)
moved_over old real beside text tried ds other in_vain is = record {
  beside = beside;
  another = other;
  tried = tried;
  in_vain = in_vain;
  each = append_assoc tried (makes beside None ∷ []) ds ∙ ap (λ (es : List Deed). tried ++ makes beside None ∷ es) is;
}

-- what is left where it was taken back
left_back : (beside : Bytes) (gone : Failure)
    → all_left (beside ∷ []) (removes beside gone ∷ []) ≡ listed (if is_some gone then Some beside else None)
left_back beside None = taken_out beside
left_back beside (Some kind) = refl

-- a file was made, and all was taken back
pub taken_back : (real beside : Bytes) (why : Unwritten) (tried ds : List Deed) → beside ≢ real → Each IsTaken tried
    → IsTakenBack real beside why ds → IsGivenUp real why ((tried ++ makes beside None ∷ []) ++ ds)
taken_back real beside why tried ds other in_vain back =
    let vain = all_vain tried in_vain in
    let end = removes beside back.gone ∷ [] in
    let spared : Each (Spares real) ds = subst (Each (Spares real)) (sym back.each)
    (each_both (Spares real) back.begun end (back.is_stopped.0.spared other) (other, tt)) in
    let left_here : all_left (beside ∷ []) ds ≡ listed (left_of why) =
    ap (all_left (beside ∷ [])) back.each ∙ (left_both (beside ∷ []) back.begun end
    ∙ (ap (λ (ps : List Bytes). all_left ps end) (back.is_stopped.0.there (beside ∷ []))
    ∙ (left_back beside back.gone ∙ ap listed (sym back.told)))) in
    record {
      spared = each_both (Spares real) (tried ++ makes beside None ∷ []) ds
          (each_both (Spares real) tried (makes beside None ∷ []) (all_spare real tried vain) ((λ e. other), tt)) spared;
      gone = left_both [] (tried ++ makes beside None ∷ []) ds
          ∙ (ap (λ (ps : List Bytes). all_left ps ds) (left_both [] tried (makes beside None ∷ [])
          ∙ ap (λ (ps : List Bytes). beside ∷ ps) (none_left [] tried vain)) ∙ left_here);
      failed = reason_fails why.trouble ((tried ++ makes beside None ∷ []) ++ ds)
          (fails_behind why.trouble (tried ++ makes beside None ∷ []) ds
          (subst (OneFails why.trouble) (sym back.each) (fails_front why.trouble back.begun end back.is_stopped.1)));
    }

pub begun_synced : (real beside text : Bytes) → IsBegun real beside (fills beside text None ∷ syncs beside None ∷ [])
begun_synced real beside text =
    begun_more real beside (fills beside text None ∷ []) (syncs beside None ∷ []) (begun_fills real beside text None)
    (begun_syncs real beside None)

-- what was done on a new file is done on the disk behind the making of it
pub finished : {after : List Deed → Type 0} {now : Bytes → Option Bytes} (t : Turn) (old : Option Bytes) (real beside text : Bytes)
    (r : Result Unit Unwritten) → IsMade t real beside → (ds : List Deed) → Does t.after after t.now now ds
    → IsFinished old real beside text ds r → (all : List Deed) × Does t.before after t.known now all × IsPutOver old real text all r
finished t old real beside text (Ok done) made ds did end =
    let all = (made.tried ++ makes beside None ∷ []) ++ ds in
    (all, does_more made.did did, moved_over old real beside text made.tried ds made.another made.in_vain end)
finished t old real beside text (Err why) made ds did end =
    let all = (made.tried ++ makes beside None ∷ []) ++ ds in
    (all, does_more made.did did, taken_back real beside why made.tried ds made.another made.in_vain end)

-- one path more was tried in vain
pub vain_more : (tried : List Deed) (d : Deed) → Each IsVain tried → IsVain d → Each IsVain (tried ++ d ∷ [])
vain_more tried d first next = each_both IsVain tried (d ∷ []) first (next, tt)

pub taken_more : (tried : List Deed) (path : Bytes) → Each IsTaken tried → Each IsTaken (tried ++ makes path (Some AlreadyExists) ∷ [])
taken_more tried path in_vain = each_both IsTaken tried (makes path (Some AlreadyExists) ∷ []) in_vain (refl, tt)

-- a name with more behind it is another name
pub longer_differs : (path more : Bytes) (d : ℕ) → path ++ d ∷ more ≢ path
longer_differs path more d is =
    let long : length path + length (d ∷ more) ≡ length path = sym (length-append path (d ∷ more)) ∙ ap length is in
    let more_than : suc (length more) ≡ length (d ∷ more) = refl in
    let none : ⊥ = omega (arith, long, more_than) in
    none

-- so it is put where a text may be written over the old one too
pub put_beside : (old : Option Bytes) (real text : Bytes) (r : Result Unit Unwritten) (ds : List Deed) → IsPutOver old real text ds r
    → IsPutAt old real text ds r
put_beside old real text (Ok done) ds put = inl put
put_beside old real text (Err why) ds put = inl put

-- the text is written over the old one, where the folder allows no new file
pub put_denied : (old : Option Bytes) (real beside text : Bytes) (tried cut : List Deed) (r : Result Unit Unwritten) → Each IsTaken tried
    → IsPutInto real text cut r → IsPutAt old real text ((tried ++ makes beside (Some PermissionDenied) ∷ []) ++ cut) r
put_denied old real beside text tried cut (Ok done) in_vain put = inr (record {
  beside = beside;
  tried = tried;
  in_vain = in_vain;
  cut = cut;
  are_cut = put;
  each = append_assoc tried (makes beside (Some PermissionDenied) ∷ []) cut;
})
put_denied old real beside text tried cut (Err why) in_vain put =
    let (kind, are, is) = put.1 in
    inr (
      put.0,
      (
        kind,
        record {
          beside = beside;
          tried = tried;
          in_vain = in_vain;
          cut = cut;
          are_cut = are;
          each = append_assoc tried (makes beside (Some PermissionDenied) ∷ []) cut;
        },
        is,
      ),
    )

pub denied_vain : (tried : List Deed) (beside : Bytes) → Each IsTaken tried
    → Each IsVain (tried ++ makes beside (Some PermissionDenied) ∷ [])
denied_vain tried beside in_vain = vain_more tried (makes beside (Some PermissionDenied)) (all_vain tried in_vain) (λ e. absurd cc)
