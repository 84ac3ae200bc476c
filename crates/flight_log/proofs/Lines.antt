-- Lines of a log: a line without its line feed, a line of which the first 64 bytes are held, and the entries of a log line by line.
-- Assumes nothing.
use Prim.Native.Nat.{ℕ, zero, suc, ◌+◌}
use mathlib.Core.Path.{◌≡◌, refl, sym, ap, ◌∙◌}
use mathlib.Core.Bool.{true}
use mathlib.Core.List.{List, [], ◌∷◌, ◌++◌, map}
use native.Mathlib.Omega.{arith}
use native.Mathlib.Decide.{dec_le}
use lib.ListN.{length, take, length-append, length-take}
use lib.Seq.{take_all, take-append-le, take-take}
use Rattle.text.specs.Text.{bytes, lines, line_of, after_line, line_at, rest_at}
use Rattle.text.specs.Spelling.{decimal}
use Rattle.text.proofs.Spell.{nothing, ends, lines_one, ends_decimal}
use Rattle.text.proofs.Theorems.{lines_at}
use Rattle.model.specs.declared.Call.{Call}
use Rattle.model.specs.declared.Call.TheVariants.{Release, Report, End}
use Rattle.std.specs.Prelude.{Some, None}
use Rattle.flight_log.specs.Log.{entry_of, entries, call_text, Feedless, log_text, AllSmall}
use Rattle.flight_log.proofs.Calls.{other, long_line, reads_call}

-- LINE FEEDS

-- The end of a text without a line feed has none, nor has its beginning.
feedless_end : (l r : List ℕ) → Feedless (l ++ r) → Feedless r
feedless_end [] r h = h
feedless_end (b ∷ l) r h = feedless_end l r h.1

feedless_take : (n : ℕ) (l : List ℕ) → Feedless l → Feedless (take n l)
feedless_take zero l h = tt
feedless_take (suc n) [] h = tt
feedless_take (suc n) (b ∷ l) h = (h.0, feedless_take n l h.1)

-- A line feed is one.
no_feed : Feedless (10 ∷ []) → ⊥
no_feed (h, _) = let z : ◌≡◌ {A = ℕ} 0 1 = cc in omega arith

-- The text of a call has one.
call_feed : (c : Call) → Feedless (call_text c) → ⊥
unfolding call_text
call_feed Release h = no_feed (feedless_end (bytes "release") (10 ∷ []) h)
call_feed (Report n e) h =
    let r : List ℕ = decimal e ++ (10 ∷ []) in
    let g : Feedless (32 ∷ r) = feedless_end (decimal n) (32 ∷ r) (feedless_end (bytes "point ") (decimal n ++ (32 ∷ r)) h) in
    no_feed (feedless_end (decimal e) (10 ∷ []) g.1)
call_feed (End e) h = no_feed (feedless_end (decimal e) (10 ∷ []) (feedless_end (bytes "end ") (decimal e ++ (10 ∷ [])) h))

-- So a line without its line feed is of another form.
pub cut_line : (l : List ℕ) → Feedless l → entry_of l ≡ None
cut_line l h = other l (λ c s e. call_feed c (rw e at h))

-- FIRST LINES

-- A text without a line feed is one line.
line_whole : (l : List ℕ) → Feedless l → line_of l ≡ l
unfolding line_of
line_whole [] h = refl
line_whole (b ∷ l) h = rw (h.0, line_whole l h.1)

after_whole : (l : List ℕ) → Feedless l → after_line l ≡ []
unfolding after_line
after_whole [] h = refl
after_whole (b ∷ l) h = rw h.0 (after_whole l h.1)

-- The first line of a text ends at its first line feed, and the rest follows.
line_first : (l t : List ℕ) → Feedless l → line_of (l ++ (10 ∷ t)) ≡ l ++ (10 ∷ [])
unfolding line_of
line_first [] t h = refl
line_first (b ∷ l) t h = rw (h.0, line_first l t h.1)

after_first : (l t : List ℕ) → Feedless l → after_line (l ++ (10 ∷ t)) ≡ t
unfolding after_line
after_first [] t h = refl
after_first (b ∷ l) t h = rw h.0 (after_first l t h.1)

-- The first 64 bytes of a line tell what it is.
pub held_line : (l : List ℕ) → Feedless l → entry_of (line_of (take 64 (take 64 l ++ (10 ∷ [])))) ≡ entry_of (l ++ (10 ∷ []))
held_line l h =
    elim (dec_le 64 (length l)) [
      | yes g ↦
          let n : length (take 64 l) ≡ 64 = length-take 64 l ∙ omega arith in
          let f : Feedless (take 64 l) = feedless_take 64 l h in
          let m : length (l ++ (10 ∷ [])) ≡ length l + 1 = length-append l (10 ∷ []) in
          rw (take-append-le 64 (take 64 l) (10 ∷ []) (omega arith), take-take 64 64 l (omega arith), line_whole (take 64 l) f)
          (long_line (take 64 l) (omega arith) ∙ sym (long_line (l ++ (10 ∷ [])) (omega arith)))
      | no g ↦
          let m : length (l ++ (10 ∷ [])) ≡ length l + 1 = length-append l (10 ∷ []) in
          rw (take_all 64 l (omega arith), take_all 64 (l ++ (10 ∷ [])) (omega arith), line_first l [] h)
    ]

-- LOGS

-- An empty log has no entry.
pub entries_none : entries [] ≡ []
unfolding entries lines
entries_none = refl

-- A line with its line feed is the first entry, and the lines behind it are the others.
pub entries_line : (l t : List ℕ) → Feedless l → entries (l ++ (10 ∷ t)) ≡ entry_of (l ++ (10 ∷ [])) ∷ entries t
unfolding entries line_at rest_at
entries_line l t h =
    let n : length (l ++ (10 ∷ t)) ≡ length l + length (10 ∷ t) = length-append l (10 ∷ t) in
    rw (lines_at (l ++ (10 ∷ t)) 0 (omega arith), line_first l t h, after_first l t h)

-- A last line without its line feed is an entry of another form.
pub entries_cut : (b : ℕ) (l : List ℕ) → Feedless (b ∷ l) → entries (b ∷ l) ≡ None ∷ []
unfolding entries lines line_at rest_at
entries_cut b l h = ap (map entry_of) (lines_at (b ∷ l) 0 (omega arith)) ∙ rw (line_whole (b ∷ l) h, after_whole (b ∷ l) h, cut_line (b ∷ l) h)

-- The text of a call is one line.
call_ends : (c : Call) → ends (call_text c) ≡ true
unfolding call_text ends nothing
call_ends Release = refl
call_ends (Report n e) = ends_decimal n (32 ∷ (decimal e ++ (10 ∷ []))) ∙ ends_decimal e (10 ∷ [])
call_ends (End e) = ends_decimal e (10 ∷ [])

-- A log that says calls has their entries.
pub entries_said : (cs : List Call) → AllSmall cs → entries (log_text cs) ≡ map Some cs
unfolding entries log_text
entries_said [] h = unfold lines in refl
entries_said (c ∷ cs) h =
    ap (map entry_of) (lines_one (call_text c) (log_text cs) (call_ends c)) ∙ rw (reads_call c h.0, entries_said cs h.1)
