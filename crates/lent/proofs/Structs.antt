-- The structs of a play on a lent tally, and of what a host is told of it, as the laws of `walks` take them. No function of the
-- crate needs a walk by hand any more.
use Rattle.walks.proofs.Carried.{Carried}
use Rattle.job.specs.contracts.Tally as tally_type
use Rattle.job.proofs.Tally.TheLaws as tally_laws
use Rattle.job.specs.contracts.Played as played_type
use Rattle.job.proofs.Played.TheLaws as played_laws
use Rattle.reader.specs.contracts.Checked as checked_type
use Rattle.reader.proofs.Checked.TheLaws as checked_laws
use Rattle.turns.specs.contracts.Progress as progress_type
use Rattle.turns.proofs.Progress.TheLaws as progress_laws

abbrev pub tally_struct : Carried
tally_struct =
    record {
      type = tally_type.the_type;
      laws = tally_laws.the_laws;
      plain = tally_laws.the_plain;
      copyable = tally_laws.the_copy;
    }

abbrev pub checked_struct : Carried
checked_struct =
    record {
      type = checked_type.the_type;
      laws = checked_laws.the_laws;
      plain = checked_laws.the_plain;
      copyable = checked_laws.the_copy;
    }

abbrev pub progress_struct : Carried
progress_struct =
    record {
      type = progress_type.the_type;
      laws = progress_laws.the_laws;
      plain = progress_laws.the_plain;
      copyable = progress_laws.the_copy;
    }

abbrev pub played_struct : Carried
played_struct =
    record {
      type = played_type.the_type;
      laws = played_laws.the_laws;
      plain = played_laws.the_plain;
      copyable = played_laws.the_copy;
    }
