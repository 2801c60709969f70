-- What is promised of sheets holds.
--
-- Main laws: agreement; full_sight; linearized_line_up, a linearized run has the report and the line-up that they ask for;
-- numbers_none and numbers_next, a list that begins with the numbers of the rows, four a request, has the report's numbers.
use mathlib.Core.Path.{◌≡◌, refl, sym, ap, ap₂, ◌∙◌}
use mathlib.Core.List.{List, [], ◌∷◌, ◌++◌}
use Prim.Native.Nat.{ℕ, zero, suc, ◌+◌, ◌*◌, ◌≤◌, ◌<◌}
use native.Mathlib.Numerals.{unary_clauses}
use native.Mathlib.Omega.{arith}
use lib.ListN.{length, get_or}
use Rattle.basics.proofs.Conditions.{cond_both}
use Rattle.job.specs.declared.Request.{Request}
use Rattle.word.specs.declared.Node.{Node}
use Rattle.linearization.specs.Partition.{Labels}
use Rattle.linearization.specs.Entry.{Entry}
use Rattle.rules.specs.declared.Row.{Row}
use Rattle.rules.specs.Report.{row_at}
use Rattle.rules.specs.Run.{Happening}
use Rattle.rules.specs.History.{link_of}
use Rattle.rules.specs.Linearized.{Linearized, is_listed}
use Rattle.sheet.specs.Sheet.{sheet_text}
use Rattle.sheet.specs.Agree.{LineUp, Numbers, Agreement, FullSight}
use Rattle.sheet.proofs.Entries.{shown_same}
use Rattle.sheet.proofs.Texts.{row_lines, request_lines_rows, request_lines_every}
use Rattle.sheet.proofs.Texts.{lines_of, shown_every, entry_lines_shown, lines_of_listing}

-- ---- the promises

pub agreement : Agreement
unfolding sheet_text
agreement seen seen' report report' entries entries' u u' agree =
    ap₂ {C = List ℕ} ◌++◌
    (request_lines_rows seen report ∙ ap (row_lines 0) agree.rows ∙ sym (request_lines_rows seen' report'))
    (entry_lines_shown seen entries ∙ ap lines_of (shown_same seen seen' report report' entries entries' u u' agree)
    ∙ sym (entry_lines_shown seen' entries'))

pub full_sight : FullSight
unfolding sheet_text
full_sight seen report entries numbers past u are all =
    ap₂ {C = List ℕ} ◌++◌ (request_lines_every seen report all numbers are)
    (entry_lines_shown seen entries ∙ ap lines_of (shown_every seen report all entries u.requests) ∙ lines_of_listing entries past)

-- ---- what the promises ask for

-- every finished request is listed once, of the unfinished exactly the unions that have linked
pub linearized_line_up : {B : Labels} {nodes : ℕ} {qs : List Request} {table : List Node} {report : List Row} {entries : List Entry}
    {past : List Happening} → Linearized B nodes qs table report entries past → length report ≡ length qs → LineUp report entries
linearized_line_up {report = report} {past = past} demand all =
    record {
      rising = demand.rising;
      requests = λ e m. omega (arith, demand.requests e m);
      once = λ q l.
          rw (demand.listed q (omega arith))
          (cond_both (λ k. k ≤ 1) (is_listed (row_at report q) (link_of q past)) (omega arith) (omega arith));
    }

pub numbers_none : (numbers : List ℕ) → Numbers numbers []
numbers_none numbers =
    record {
      answers = λ q l. absurd (omega arith);
      firsts = λ q l. absurd (omega arith);
      lasts = λ q l. absurd (omega arith);
      useds = λ q l. absurd (omega arith);
    }

module _ (r : Row) (report : List Row) (numbers : List ℕ) where
  -- one of a row's four, which stands at place i
  one_next : (one : Row → ℕ) (i : ℕ) → get_or (r.answer ∷ r.first ∷ r.last ∷ r.used ∷ numbers) i 0 ≡ one r
      → ((q : ℕ) → q < length report → get_or numbers (4 * q + i) 0 ≡ one (row_at report q))
      → (q : ℕ) → q < suc (length report)
      → get_or (r.answer ∷ r.first ∷ r.last ∷ r.used ∷ numbers) (4 * q + i) 0 ≡ one (row_at (r ∷ report) q)
  one_next one i first rest zero l = let start : 4 * 0 + i ≡ i = omega arith in rw start first
  one_next one i first rest (suc q) l =
      let along : 4 * suc q + i ≡ suc (suc (suc (suc (4 * q + i)))) = omega arith in
      rw along (rest q (omega arith))

  pub numbers_next : Numbers numbers report → Numbers (r.answer ∷ r.first ∷ r.last ∷ r.used ∷ numbers) (r ∷ report)
  numbers_next are =
      record {
        answers = λ q l. simp unary_clauses at (one_next (λ s. s.answer) 0 refl (λ p h. simp unary_clauses (are.answers p h)) q l);
        firsts = one_next (λ s. s.first) 1 refl are.firsts;
        lasts = one_next (λ s. s.last) 2 refl are.lasts;
        useds = one_next (λ s. s.used) 3 refl are.useds;
      }
