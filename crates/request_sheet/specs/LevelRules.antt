-- The rules of the request on big directories, by number: the hash levels of a directory for the lowest directory levels, the highest
-- and those at the edges.
use Rattle.std.specs.Prelude.{refl, List, [], ◌∷◌, ℕ, ◌-◌}
use mathlib.Core.List as List
use Rattle.hash_level.specs.Level.{buckets_of, blocks_of, first_of, bucket_of}
use Rattle.hash_level.specs.Reach.{up_to, in_reach}
use Rattle.bench_sheet.specs.Line.{Line, ◌is◌, Holds}

-- 0 to 30
abbrev dir_levels : List ℕ
dir_levels =
    0 ∷ 1 ∷ 2 ∷ 3 ∷ 4 ∷ 5 ∷ 6 ∷ 7 ∷ 8 ∷ 9 ∷ 10 ∷ 11 ∷ 12 ∷ 13 ∷ 14 ∷ 15 ∷ 16 ∷ 17 ∷ 18 ∷ 19 ∷ 20 ∷ 21 ∷ 22 ∷ 23 ∷ 24 ∷ 25 ∷ 26 ∷ 27 ∷
    28 ∷ 29 ∷ 30 ∷ []

-- the blocks in reach of a directory with 923 addresses in its inode and 63 hash levels
abbrev reach : ℕ → ℕ → ℕ
reach dir hash = in_reach 1057053438 dir hash 63 0

abbrev level_rules : List Line
level_rules =
    -- "buckets are 2^(n + level) while n + level is below 31, else 2^30"
    (List.map buckets_of (0 ∷ 1 ∷ 2 ∷ 29 ∷ 30 ∷ 31 ∷ 32 ∷ 92 ∷ [])
    is (1 ∷ 2 ∷ 4 ∷ 536870912 ∷ 1073741824 ∷ 1073741824 ∷ 1073741824 ∷ 1073741824 ∷ []))
    -- "blocks stay 2 for n below 31, else 4"
    ∷ (List.map blocks_of (0 ∷ 30 ∷ 31 ∷ 62 ∷ []) is (2 ∷ 2 ∷ 4 ∷ 4 ∷ []))
    -- "in each the bucket hash mod buckets"
    ∷ (List.map (bucket_of 0 2) (0 ∷ 3 ∷ 4 ∷ 7 ∷ []) is (6 ∷ 12 ∷ 6 ∷ 12 ∷ []))
    ∷ (List.map (bucket_of 1 2) (0 ∷ 3 ∷ 4 ∷ 7 ∷ 8 ∷ []) is (12 ∷ 18 ∷ 20 ∷ 26 ∷ 12 ∷ []))
    ∷ (List.map (bucket_of 0 31) (1 ∷ 1073741825 ∷ []) is (4294967298 ∷ 4294967298 ∷ []))
    -- the first blocks for a directory level of 0 and of 1
    ∷ (List.map (first_of 0) (0 ∷ 1 ∷ 2 ∷ 3 ∷ 4 ∷ 28 ∷ 29 ∷ 30 ∷ []) is (0 ∷ 2 ∷ 6 ∷ 14 ∷ 30 ∷ 536870910 ∷ 1073741822 ∷ 2147483646 ∷ []))
    ∷ (List.map (first_of 0) (31 ∷ 32 ∷ 33 ∷ 62 ∷ []) is (4294967294 ∷ 8589934590 ∷ 12884901886 ∷ 137438953470 ∷ []))
    ∷ (List.map (first_of 1) (0 ∷ 1 ∷ 2 ∷ 3 ∷ 4 ∷ 28 ∷ 29 ∷ 30 ∷ []) is (0 ∷ 4 ∷ 12 ∷ 28 ∷ 60 ∷ 1073741820 ∷ 2147483644 ∷ 4294967292 ∷ []))
    ∷ (List.map (first_of 1) (31 ∷ 32 ∷ 33 ∷ 62 ∷ []) is (6442450940 ∷ 10737418236 ∷ 15032385532 ∷ 139586437116 ∷ []))
    -- where the table of each directory level passes 32 bits: its last start below 2^32, and the next
    ∷ (List.map (λ dir. first_of dir (31 - dir)) dir_levels
    is (4294967294 ∷ 4294967292 ∷ 4294967288 ∷ 4294967280 ∷ 4294967264 ∷ 4294967232 ∷ 4294967168 ∷ 4294967040 ∷ 4294966784 ∷ 4294966272 ∷
    4294965248 ∷ 4294963200 ∷ 4294959104 ∷ 4294950912 ∷ 4294934528 ∷ 4294901760 ∷ 4294836224 ∷ 4294705152 ∷ 4294443008 ∷ 4293918720 ∷
    4292870144 ∷ 4290772992 ∷ 4286578688 ∷ 4278190080 ∷ 4261412864 ∷ 4227858432 ∷ 4160749568 ∷ 4026531840 ∷ 3758096384 ∷ 3221225472 ∷
    2147483648 ∷ []))
    ∷ (List.map (λ dir. first_of dir (32 - dir)) dir_levels
    is (8589934590 ∷ 6442450940 ∷ 6442450936 ∷ 6442450928 ∷ 6442450912 ∷ 6442450880 ∷ 6442450816 ∷ 6442450688 ∷ 6442450432 ∷ 6442449920 ∷
    6442448896 ∷ 6442446848 ∷ 6442442752 ∷ 6442434560 ∷ 6442418176 ∷ 6442385408 ∷ 6442319872 ∷ 6442188800 ∷ 6441926656 ∷ 6441402368 ∷
    6440353792 ∷ 6438256640 ∷ 6434062336 ∷ 6425673728 ∷ 6408896512 ∷ 6375342080 ∷ 6308233216 ∷ 6174015488 ∷ 5905580032 ∷ 5368709120 ∷
    4294967296 ∷ []))
    ∷ (List.map (first_of 30) (0 ∷ 1 ∷ 2 ∷ 3 ∷ 31 ∷ 32 ∷ 62 ∷ []) is (0 ∷ 2147483648 ∷ 4294967296 ∷ 6442450944 ∷ 66571993088 ∷ 70866960384 ∷ 199715979264 ∷ []))
    -- "The bounds 179 and 238 hold as they are": for a hash of 0, 58 blocks are in reach, and fewer with a level
    ∷ (List.map (λ dir. reach dir 0) (0 ∷ 1 ∷ 22 ∷ 23 ∷ 28 ∷ 29 ∷ 30 ∷ []) is (58 ∷ 56 ∷ 14 ∷ 14 ∷ 4 ∷ 2 ∷ 2 ∷ []))
    -- buckets at the last index, which is even: two blocks, one, none
    ∷ (List.map (reach 29) (528526718 ∷ 528526719 ∷ 528526720 ∷ []) is (2 ∷ 1 ∷ 0 ∷ []))
    ∷ []

pub level_rules_lem : Holds level_rules
unfolding first_of bucket_of up_to in_reach
level_rules_lem = refl
