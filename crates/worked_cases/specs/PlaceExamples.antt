-- Computed examples of where things stand, in whole (document 01, "Modules and shapes"): the bits of all shapes, the core ring and
-- the data places of C1 and of F1, and the eight positions. The values are those of a program that was written apart from the definitions.
-- Assumes nothing.
use Rattle.std.specs.Prelude.{◌≡◌, refl, true, false, [], ◌∷◌, map, ◌+◌}
use Rattle.list_laws.specs.Filled.{tabulate}
use Rattle.list_laws.specs.Writes.{writes}
use Rattle.symbol.specs.Shapes.{side, square, bits, word_size, skipped, core, is_full, layers, number_of}
use Rattle.symbol.specs.Places.{turned, domino, layer_cell, cell, spread, data_place}
use Rattle.symbol.specs.Places.{core_place, orientation_cell, orientation_place, mode_run, mode_column, mode_cell, mode_place}
use Rattle.symbol.specs.Positions.{place_in, placed}
use Rattle.orientation.specs.Family.{ring_cell}

-- "Bits Cb: compact (88 + 16L)·L, full (112 + 16L)·L": C1 to C4, then F1 to F32
pub all-bits : tabulate (λ i. bits (is_full (i + 1)) (layers (i + 1))) 36
    ≡ 104 ∷ 240 ∷ 408 ∷ 608 ∷ 128 ∷ 288 ∷ 480 ∷ 704 ∷ 960 ∷ 1248 ∷ 1568 ∷ 1920 ∷ 2304 ∷ 2720 ∷ 3168 ∷ 3648 ∷ 4160 ∷ 4704 ∷ 5280
    ∷ 5888 ∷ 6528 ∷ 7200 ∷ 7904 ∷ 8640 ∷ 9408 ∷ 10208 ∷ 11040 ∷ 11904 ∷ 12800 ∷ 13728 ∷ 14688 ∷ 15680 ∷ 16704 ∷ 17760 ∷ 18848
    ∷ 19968 ∷ []
unfolding tabulate bits is_full layers
all-bits = refl

-- "The first Cb mod B bits"
pub all-skipped : tabulate (λ i. skipped (is_full (i + 1)) (layers (i + 1))) 36
    ≡ 2 ∷ 0 ∷ 0 ∷ 0 ∷ 2 ∷ 0 ∷ 0 ∷ 0 ∷ 0 ∷ 0 ∷ 0 ∷ 0 ∷ 4 ∷ 0 ∷ 8 ∷ 8 ∷ 0 ∷ 4 ∷ 0 ∷ 8 ∷ 8 ∷ 0 ∷ 4 ∷ 0 ∷ 8 ∷ 8 ∷ 0 ∷ 0 ∷ 8 ∷ 0 ∷ 0
    ∷ 8 ∷ 0 ∷ 0 ∷ 8 ∷ 0 ∷ []
unfolding tabulate skipped bits word_size is_full layers
all-skipped = refl

-- "Shapes are numbered 1 to 4 for C1 to C4, 5 to 36 for F1 to F32"
pub numbers : number_of false 1 ∷ number_of false 4 ∷ number_of true 1 ∷ number_of true 32 ∷ [] ≡ 1 ∷ 4 ∷ 5 ∷ 36 ∷ []
unfolding number_of
numbers = refl

-- "twelve orientation modules, three at each corner. Clockwise from the one below the top left corner", in sides 15 and 19
pub orientation-places : tabulate (orientation_place false 15) 12 ∷ tabulate (orientation_place true 19) 12 ∷ []
    ≡ (47 ∷ 32 ∷ 33 ∷ 41 ∷ 42 ∷ 57 ∷ 177 ∷ 192 ∷ 191 ∷ 183 ∷ 182 ∷ 167 ∷ [])
    ∷ (59 ∷ 40 ∷ 41 ∷ 53 ∷ 54 ∷ 73 ∷ 301 ∷ 320 ∷ 319 ∷ 307 ∷ 306 ∷ 287 ∷ [])
    ∷ []
unfolding tabulate core turned core_place orientation_cell orientation_place
orientation-places = refl

-- "Mode message, clockwise from the upper left: compact 7 bits a side at offsets −3 to 3"
pub compact-mode : tabulate (mode_place false 15) 28
    ≡ 34 ∷ 35 ∷ 36 ∷ 37 ∷ 38 ∷ 39 ∷ 40 ∷ 72 ∷ 87 ∷ 102 ∷ 117 ∷ 132 ∷ 147 ∷ 162 ∷ 190 ∷ 189 ∷ 188 ∷ 187 ∷ 186 ∷ 185 ∷ 184 ∷ 152
    ∷ 137 ∷ 122 ∷ 107 ∷ 92 ∷ 77 ∷ 62 ∷ []
unfolding tabulate core turned core_place mode_run mode_column mode_cell mode_place
compact-mode = refl

-- "full 10 a side at −5 to −1 and 1 to 5"
pub full-mode : tabulate (mode_place true 19) 40
    ≡ 42 ∷ 43 ∷ 44 ∷ 45 ∷ 46 ∷ 48 ∷ 49 ∷ 50 ∷ 51 ∷ 52 ∷ 92 ∷ 111 ∷ 130 ∷ 149 ∷ 168 ∷ 206 ∷ 225 ∷ 244 ∷ 263 ∷ 282 ∷ 318 ∷ 317
    ∷ 316 ∷ 315 ∷ 314 ∷ 312 ∷ 311 ∷ 310 ∷ 309 ∷ 308 ∷ 268 ∷ 249 ∷ 230 ∷ 211 ∷ 192 ∷ 154 ∷ 135 ∷ 116 ∷ 97 ∷ 78 ∷ []
unfolding tabulate core turned core_place mode_run mode_column mode_cell mode_place
full-mode = refl

-- "left, row 2t + j, columns 2t then 2t + 1; bottom, ..; right, ..; top, ..": all data bits of C1, and of F1, which has a reference line
-- each way
pub compact-data : tabulate (data_place false 1) 104
    ≡ 0 ∷ 1 ∷ 15 ∷ 16 ∷ 30 ∷ 31 ∷ 45 ∷ 46 ∷ 60 ∷ 61 ∷ 75 ∷ 76 ∷ 90 ∷ 91 ∷ 105 ∷ 106 ∷ 120 ∷ 121 ∷ 135 ∷ 136 ∷ 150 ∷ 151 ∷ 165
    ∷ 166 ∷ 180 ∷ 181 ∷ 210 ∷ 195 ∷ 211 ∷ 196 ∷ 212 ∷ 197 ∷ 213 ∷ 198 ∷ 214 ∷ 199 ∷ 215 ∷ 200 ∷ 216 ∷ 201 ∷ 217 ∷ 202 ∷ 218 ∷ 203
    ∷ 219 ∷ 204 ∷ 220 ∷ 205 ∷ 221 ∷ 206 ∷ 222 ∷ 207 ∷ 224 ∷ 223 ∷ 209 ∷ 208 ∷ 194 ∷ 193 ∷ 179 ∷ 178 ∷ 164 ∷ 163 ∷ 149 ∷ 148 ∷ 134
    ∷ 133 ∷ 119 ∷ 118 ∷ 104 ∷ 103 ∷ 89 ∷ 88 ∷ 74 ∷ 73 ∷ 59 ∷ 58 ∷ 44 ∷ 43 ∷ 14 ∷ 29 ∷ 13 ∷ 28 ∷ 12 ∷ 27 ∷ 11 ∷ 26 ∷ 10 ∷ 25 ∷ 9
    ∷ 24 ∷ 8 ∷ 23 ∷ 7 ∷ 22 ∷ 6 ∷ 21 ∷ 5 ∷ 20 ∷ 4 ∷ 19 ∷ 3 ∷ 18 ∷ 2 ∷ 17 ∷ []
unfolding tabulate side square domino layer_cell cell spread data_place
compact-data = refl

pub full-data : tabulate (data_place true 1) 128
    ≡ 0 ∷ 1 ∷ 19 ∷ 20 ∷ 38 ∷ 39 ∷ 57 ∷ 58 ∷ 76 ∷ 77 ∷ 95 ∷ 96 ∷ 114 ∷ 115 ∷ 133 ∷ 134 ∷ 152 ∷ 153 ∷ 190 ∷ 191 ∷ 209 ∷ 210 ∷ 228
    ∷ 229 ∷ 247 ∷ 248 ∷ 266 ∷ 267 ∷ 285 ∷ 286 ∷ 304 ∷ 305 ∷ 342 ∷ 323 ∷ 343 ∷ 324 ∷ 344 ∷ 325 ∷ 345 ∷ 326 ∷ 346 ∷ 327 ∷ 347 ∷ 328
    ∷ 348 ∷ 329 ∷ 349 ∷ 330 ∷ 350 ∷ 331 ∷ 352 ∷ 333 ∷ 353 ∷ 334 ∷ 354 ∷ 335 ∷ 355 ∷ 336 ∷ 356 ∷ 337 ∷ 357 ∷ 338 ∷ 358 ∷ 339 ∷ 360
    ∷ 359 ∷ 341 ∷ 340 ∷ 322 ∷ 321 ∷ 303 ∷ 302 ∷ 284 ∷ 283 ∷ 265 ∷ 264 ∷ 246 ∷ 245 ∷ 227 ∷ 226 ∷ 208 ∷ 207 ∷ 170 ∷ 169 ∷ 151 ∷ 150
    ∷ 132 ∷ 131 ∷ 113 ∷ 112 ∷ 94 ∷ 93 ∷ 75 ∷ 74 ∷ 56 ∷ 55 ∷ 18 ∷ 37 ∷ 17 ∷ 36 ∷ 16 ∷ 35 ∷ 15 ∷ 34 ∷ 14 ∷ 33 ∷ 13 ∷ 32 ∷ 12 ∷ 31
    ∷ 11 ∷ 30 ∷ 10 ∷ 29 ∷ 8 ∷ 27 ∷ 7 ∷ 26 ∷ 6 ∷ 25 ∷ 5 ∷ 24 ∷ 4 ∷ 23 ∷ 3 ∷ 22 ∷ 2 ∷ 21 ∷ []
unfolding tabulate side square domino layer_cell cell spread data_place
full-data = refl

-- "the 40 modules at distance 5", in side 19
pub ring : tabulate (λ k. core_place false 19 (ring_cell k)) 40
    ≡ 80 ∷ 81 ∷ 82 ∷ 83 ∷ 84 ∷ 85 ∷ 86 ∷ 87 ∷ 88 ∷ 89 ∷ 90 ∷ 109 ∷ 128 ∷ 147 ∷ 166 ∷ 185 ∷ 204 ∷ 223 ∷ 242 ∷ 261 ∷ 280 ∷ 279
    ∷ 278 ∷ 277 ∷ 276 ∷ 275 ∷ 274 ∷ 273 ∷ 272 ∷ 271 ∷ 270 ∷ 251 ∷ 232 ∷ 213 ∷ 194 ∷ 175 ∷ 156 ∷ 137 ∷ 118 ∷ 99 ∷ []
unfolding tabulate core turned core_place ring_cell
ring = refl

-- "Position is the number of clockwise quarter turns, 0 to 3, plus 4 if the made tag was mirrored left to right before them": a square of
-- three rows, 1 to 9, in positions 0 to 7
pub positions :
    map (λ p. placed 3 p (1 ∷ 2 ∷ 3 ∷ 4 ∷ 5 ∷ 6 ∷ 7 ∷ 8 ∷ 9 ∷ [])) (0 ∷ 1 ∷ 2 ∷ 3 ∷ 4 ∷ 5 ∷ 6 ∷ 7 ∷ [])
    ≡ (1 ∷ 2 ∷ 3 ∷ 4 ∷ 5 ∷ 6 ∷ 7 ∷ 8 ∷ 9 ∷ [])
    ∷ (7 ∷ 4 ∷ 1 ∷ 8 ∷ 5 ∷ 2 ∷ 9 ∷ 6 ∷ 3 ∷ [])
    ∷ (9 ∷ 8 ∷ 7 ∷ 6 ∷ 5 ∷ 4 ∷ 3 ∷ 2 ∷ 1 ∷ [])
    ∷ (3 ∷ 6 ∷ 9 ∷ 2 ∷ 5 ∷ 8 ∷ 1 ∷ 4 ∷ 7 ∷ [])
    ∷ (3 ∷ 2 ∷ 1 ∷ 6 ∷ 5 ∷ 4 ∷ 9 ∷ 8 ∷ 7 ∷ [])
    ∷ (9 ∷ 6 ∷ 3 ∷ 8 ∷ 5 ∷ 2 ∷ 7 ∷ 4 ∷ 1 ∷ [])
    ∷ (7 ∷ 8 ∷ 9 ∷ 4 ∷ 5 ∷ 6 ∷ 1 ∷ 2 ∷ 3 ∷ [])
    ∷ (1 ∷ 4 ∷ 7 ∷ 2 ∷ 5 ∷ 8 ∷ 3 ∷ 6 ∷ 9 ∷ [])
    ∷ []
unfolding writes turned place_in placed
positions = refl
