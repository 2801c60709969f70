-- What a play on a lent tally ends with: what every play ends with, and the owner's tally.
--
-- Main laws: accepted_ended and refused_ended.
use mathlib.Core.Path.{◌≡◌, refl, ◌∙◌}
use mathlib.Core.List.{List}
use Prim.Native.Nat.{ℕ, ◌≤◌}
use borrow.Author.Tests.{eq-eqb, ne_eqb}
use Rattle.job.specs.declared.Tally.{Tally}
use Rattle.job.specs.declared.Played.{Played}
use Rattle.job.specs.declared.refusal.Refusal.{Refusal}
use Rattle.job.specs.Played.{refused_with}
use Rattle.job.specs.Refusal.{number_of}
use Rattle.job.proofs.Refusals.{refuses}
use Rattle.reader.specs.declared.Checked.{Checked}
use Rattle.player.specs.Parts.{closed_of}
use Rattle.player.proofs.Along.{Entry, number₀, Along, along_end, along_tally, refused_end, PlayEnded}
use Rattle.lent.specs.Lent.{tally_left}

module _ (E : Entry) (tally₀ : Tally) where
  pub record LentEnded (tally : Tally) (table report linearization : List ℕ) (result : Played) : Type 0 where
    pub played : PlayEnded E table report linearization result
    pub counted : tally ≡ tally_left E.file E.table E.report E.linearization tally₀

  pub accepted_ended : (counts : Checked) (a : Along E counts) → counts.grants ≤ a.progress.number → (result : Played)
      → result ≡ closed_of counts a.progress a.tally → LentEnded a.tally a.table a.report a.linearization result
  unfolding tally_left
  accepted_ended counts a over result is =
      record {
        played = along_end E counts a over result is;
        counted = rw (eq-eqb (number₀ E) 0 a.lending.accepted) (along_tally E counts a over);
      }

  pub refused_ended : (e : Refusal) → number_of e ≡ number₀ E
      → LentEnded tally₀ E.table E.report E.linearization (refused_with (number_of e))
  unfolding tally_left
  refused_ended e told =
      record {
        played = refused_end E e told;
        counted = rw (ne_eqb (number₀ E) 0 (λ z. refuses e (told ∙ z))) refl;
      }
