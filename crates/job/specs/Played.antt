-- What a host is told of a play.
--
--   refused_with n    the answer of a refusal
--   played_told r     what is told of a play's answer
use Rattle.std.specs.Prelude.{ℕ, Result}
use Rattle.std.specs.declared.result.Result.TheVariants.{Ok, Err}
use Rattle.job.specs.declared.Play.{Play}
use Rattle.job.specs.declared.Played.{Played}
use Rattle.job.specs.declared.refusal.Refusal.{Refusal}
use Rattle.job.specs.Refusal.{number_of}

-- Each refusal gives its number and zero for every count.
abbrev pub refused_with : ℕ → Played
refused_with n =
    record {
      number = n;
      nodes = 0;
      heads = 0;
      requests = 0;
      grants = 0;
      entries = 0;
      tally = record { idle = 0; failed = 0; links = 0; working = 0 };
    }

-- A play of an accepted job has the number 0, and its counts.
abbrev pub played_told : Result Play Refusal → Played
played_told (Ok play) =
    record {
      number = 0;
      nodes = play.nodes;
      heads = play.heads;
      requests = play.requests;
      grants = play.grants;
      entries = play.entries;
      tally = play.tally;
    }
played_told (Err refusal) = refused_with (number_of refusal)
