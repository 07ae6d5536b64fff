-- The Rust's decimal constants by their bit patterns, as a compiled literal has them; `Decimals` of `Claims` says that each is the nearest
-- to its decimal. Definitions only. Assumes nothing.
use Rattle.std.specs.Prelude.{from_bits, Float}
use Rattle.std.specs.Float.{binary32, binary64}

-- 0.02 as an `f32`
abbrev pub 0·02 : Float
0·02 = from_bits binary32 0x3ca3_d70a

-- 0.05 as an `f32`
abbrev pub 0·05 : Float
0·05 = from_bits binary32 0x3d4c_cccd

-- 0.08 as an `f32`
abbrev pub 0·08 : Float
0·08 = from_bits binary32 0x3da3_d70a

-- 0.1 as an `f32`
abbrev pub 0·1 : Float
0·1 = from_bits binary32 0x3dcc_cccd

-- 0.15 as an `f32`
abbrev pub 0·15 : Float
0·15 = from_bits binary32 0x3e19_999a

-- 0.2 as an `f32`
abbrev pub 0·2 : Float
0·2 = from_bits binary32 0x3e4c_cccd

-- 0.3 as an `f32`
abbrev pub 0·3 : Float
0·3 = from_bits binary32 0x3e99_999a

-- 0.35 as an `f32`
abbrev pub 0·35 : Float
0·35 = from_bits binary32 0x3eb3_3333

-- 0.7 as an `f32`
abbrev pub 0·7 : Float
0·7 = from_bits binary32 0x3f33_3333

-- 0.85 as an `f32`
abbrev pub 0·85 : Float
0·85 = from_bits binary32 0x3f59_999a

-- 0.9 as an `f32`
abbrev pub 0·9 : Float
0·9 = from_bits binary32 0x3f66_6666

-- 1.05 as an `f32`
abbrev pub 1·05 : Float
1·05 = from_bits binary32 0x3f86_6666

-- 1.4826 as an `f32`
abbrev pub 1·4826 : Float
1·4826 = from_bits binary32 0x3fbd_c5d6

-- 1e-3 as an `f32`
abbrev pub 1e-3 : Float
1e-3 = from_bits binary32 0x3a83_126f

-- 1e-6 as an `f32`
abbrev pub 1e-6 : Float
1e-6 = from_bits binary32 0x3586_37bd

-- 0.004 as an `f32`
abbrev pub 0·004 : Float
0·004 = from_bits binary32 0x3b83_126f

-- 1e-9 as an `f64`
abbrev pub 1e-9 : Float
1e-9 = from_bits binary64 0x3e11_2e0b_e826_d695

-- 1e-12 as an `f64`
abbrev pub 1e-12 : Float
1e-12 = from_bits binary64 0x3d71_9799_812d_ea11

-- ---- numbers that a format holds exactly
-- 0, 0.5, 1 and 2 as an `f32`
abbrev pub 0f : Float
0f = from_bits binary32 0

abbrev pub 0·5 : Float
0·5 = from_bits binary32 0x3f00_0000

abbrev pub 1f : Float
1f = from_bits binary32 0x3f80_0000

abbrev pub 2f : Float
2f = from_bits binary32 0x4000_0000

-- 1 as an `f64`
abbrev pub 1d : Float
1d = from_bits binary64 0x3ff0_0000_0000_0000
