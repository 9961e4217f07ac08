-- The promises of specs/RoundTrip.antt, Spelling.antt and ReadKeeps.antt, proved.
use mathlib.Core.Path.{ap, subst, sym, ◌∙◌, ◌≡◌}
use mathlib.Core.Bool.{false}
use mathlib.Core.List.{◌++◌, List, [], append_cancel_left, append-nil, reverse-reverse, ◌∷◌}
use Prim.Native.Nat.{ℕ}
use native.Mathlib.Omega.{arith}
use lib.ListN.{length}
use Rattle.macros.specs.Macro.{Macro, Table, pick}
use Rattle.macros.specs.Formed.{Bytes, Octets}
use Rattle.macros.specs.Read.{at_end, read_file_by, read_from, read_onto, read_from_by}
use Rattle.macros.specs.ReadFile.Read.{table}
use Rattle.macros.specs.ReadFile.Pending.{clear}
use Rattle.macros.specs.ReadFile.Reader.{between}
use Rattle.macros.specs.Write.{write_out}
use Rattle.macros.specs.Spell.{shortest}
use Rattle.macros.specs.Accepted.{Accepted, Each, Spellable, Spelled}
use Rattle.macros.specs.RoundTrip.{RoundTrip, WrittenOnce}
use Rattle.macros.specs.Spelling.{AcceptedMeans, NoShorter, ShortestReads, SomeFileSpells}
use Rattle.macros.specs.ReadKeeps.{ReadKeeps}
use Rattle.macros.proofs.Styles.{bare, fair_bare, fair_full, full, shortest_bare, spelled}
use Rattle.macros.proofs.Full.{written_full}
use Rattle.macros.proofs.Whole.{whole_spelled}
use Rattle.macros.proofs.Round.{read_lines, read_macro_lem, read_whole, same_macro, whole_lines, write_more}
use Rattle.macros.proofs.Paid.{SpelledIn, produced}

-- THE SHORTEST SPELLING

pub shortest_reads : ShortestReads
unfolding read_from_by at_end pick
shortest_reads m g h =
    let e = shortest_bare m in
    read_whole (shortest m) (rw e (whole_spelled bare m g)) (omega arith)
    ∙ rw e
    (ap (read_from 0 (between false clear [])) (sym (append-nil (spelled bare m)))
    ∙ read_macro_lem bare fair_bare m g (rw e at h) 0 [] [] (omega arith))

-- a macro that bytes were read as, whatever was there before
spelled_in : (older : Table) (m : Macro) (s : List ℕ) → Octets s → read_onto older s ≡ table (older ++ (m ∷ [])) → SpelledIn (length s) m
spelled_in older m s g e =
    let p = produced older s (older ++ (m ∷ [])) g e in
    let z : p.new ≡ m ∷ [] = sym (append_cancel_left older (m ∷ []) p.new p.behind) in
    (subst (λ (l : Table). Each (SpelledIn (length s)) l) z p.each).0

pub no_shorter : NoShorter
no_shorter older m s g e = (spelled_in older m s g e).least

octets : (s : List ℕ) → Bytes s → Octets s
octets [] g = tt
octets (b ∷ s) g = (g.0.1, octets s g.1)

pub some_file_spells : SomeFileSpells
unfolding read_file_by
some_file_spells m = (
  λ h. (shortest m, octets (shortest m) (rw (shortest_bare m) (whole_spelled bare m h.0)), shortest_reads m h.0 h.1),
  λ f. let r = spelled_in [] m f.0 f.1 f.2 in (r.formed, r.short),
)

each_map : (P Q : Macro → Type 0) → ((m : Macro) → P m → Q m) → (ms : Table) → Each P ms → Each Q ms
each_map P Q f [] e = tt
each_map P Q f (m ∷ ms) e = (f m e.0, each_map P Q f ms e.1)

pub accepted_means : AcceptedMeans
accepted_means ms = (
  λ a. (a.count, each_map Spelled Spellable (λ m. (some_file_spells m).1) ms a.macros),
  λ h. record { count = h.0; macros = each_map Spellable Spelled (λ m. (some_file_spells m).0) ms h.1 },
)

-- the macros of an accepted table, by their lengths
pub each_spellable : {ms : Table} → Accepted ms → Each Spellable ms
each_spellable {ms} a = ((accepted_means ms).0 a).1

-- WRITING OUT

pub round_trip : RoundTrip
unfolding write_out
round_trip ms s a e =
    let w = write_more ms [] s (omega arith) e in
    let z : Bytes s = rw w.0 (whole_lines ms (each_spellable a)) in
    record {
      back = read_whole s z w.1 ∙ rw w.0 (read_lines ms 0 [] (each_spellable a) w.2 (omega (arith, a.count)) ∙ rw (reverse-reverse ms));
      fits = w.1;
      bytes = z;
      short = w.2;
    }

pub written_once : WrittenOnce
written_once m n g h e = same_macro full fair_full m n g h (rw (written_full m, written_full n) at e)

-- READING

each_append : (P : Macro → Type 0) (ms new : Table) → Each P ms → Each P new → Each P (ms ++ new)
each_append P [] new e f = f
each_append P (m ∷ ms) new e f = (e.0, each_append P ms new e.1 f)

pub read_keeps : ReadKeeps
read_keeps older s ms a g e =
    let p = produced older s ms g e in
    let new : Each Spelled p.new = each_map (SpelledIn (length s)) Spelled (λ m x. (some_file_spells m).0 (x.formed, x.short)) p.new p.each in
    record {
      accepted = record { count = p.count a.count; macros = rw p.behind (each_append Spelled older p.new a.macros new) };
      behind = (p.new, p.behind);
    }
