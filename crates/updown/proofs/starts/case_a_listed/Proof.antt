-- `updown::starts::case_a_listed` meets its contract: by the test whether the mark says that a batch column starts. Assumes nothing.
use Rattle.updown.proofs.Listing.{started_none}
use borrow.Author.Rules.{rules}
use Rattle.updown.proofs.starts.case_a_listed.Statement.{statement}
use Rattle.updown.proofs.starts.case_a_listed.Tie as tie

mul-if1 : tie.Need-overflow_mul-m
mul-if1 c = search rules

sub-if1 : tie.Need-overflow_sub-j
sub-if1 c = search rules

cast-if1 : tie.Need-overflow_cast-j
cast-if1 c = search rules

add-if1 : tie.Need-overflow_add-m
add-if1 c = search rules

mul-if1-2 : tie.Need-offset_bounds-work-m
mul-if1-2 c = search rules

slice-read-if1 : tie.Need-bounds-work-m
slice-read-if1 c = search rules

count-listed-requires : tie.Need-count_listed-requires
count-listed-requires c κs = c.requires.0

same_length : tie.Need-shape_of-work-then-work-m-eq-START_BIT
same_length c = search rules

returns : tie.Need-returns-then-work-m-eq-START_BIT
returns c = λ R W h can bits. c.count_listed.ensures R W h can

returns-2 : tie.Need-returns
returns-2 c = λ R W h can bits. started_none can bits c.if-work-m-eq-START_BIT.false

pub case_a_listed_spec : {M : Type 1} → statement M
case_a_listed_spec =
    tie.close
    (tie.spec
    mul-if1
    sub-if1
    cast-if1
    add-if1
    mul-if1-2
    slice-read-if1
    count-listed-requires
    same_length
    returns
    returns-2)
