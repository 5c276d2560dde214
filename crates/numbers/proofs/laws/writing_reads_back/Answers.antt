use Rattle.numbers.proofs.ReadBack.{digits_read_back, binary_reads_back, decimal_reads_back}
use Rattle.numbers.proofs.laws.writing_reads_back.Goals as goal

pub returns : goal.returns
returns c = record { digits = digits_read_back; binary = binary_reads_back; decimal = decimal_reads_back }
